use Rattle.std.proofs.Common.{sym, subst}
use Rattle.std.specs.Prelude.{IfOk}
use Rattle.pb_base.specs.declared.lending.Lending.{Lending}
use Rattle.pb_messages.specs.Said.{SaysToPerson}
use Rattle.pb_messages.specs.declared.message.Reading.TheVariants.{Replayed}
use Rattle.pb_debug_tool.specs.Debug.{tells_refused}
use Rattle.pb_words.specs.declared.words.Options.{Options}
use Rattle.pb_debug_tool.proofs.debug_tool.DebugToolCommands.message.Goals as goal

pub returns-in-Draw : goal.returns-in-Draw
returns-in-Draw c =
    let bytes = c.args.bytes.now in
    subst (λ (o : Options). IfOk c.message_of.result (λ message. tells_refused o bytes message.items)) (sym c.in-Draw.is)
    (subst (λ (l : Lending). IfOk c.message_of.result (λ message. SaysToPerson (Replayed l) bytes message.items))
    c.lending.ensures c.message_of.ensures)
