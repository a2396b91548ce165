use Rattle.std.proofs.Common.{List, ℕ, Option, IfOk, subst, sym}
use Rattle.pb_messages.specs.Said.{SaysToPerson}
use Rattle.pb_messages.specs.declared.message.Reading.TheVariants.{Replayed}
use Rattle.pb_adapter_engine.specs.Waiting.{reading_of}
use Rattle.pb_adapter_engine.proofs.waiting.message_for.Goals as goal

pub returns-in-None : goal.returns-in-None
returns-in-None c =
    subst (λ (n : Option ℕ). IfOk c.message_of.result (λ message. SaysToPerson (reading_of n c.args.lending) c.args.words.now message.items))
    (sym c.in-None.is)
    (subst (λ (t : List ℕ). IfOk c.message_of.result (λ message. SaysToPerson (Replayed c.args.lending) t message.items))
    c.as_bytes.ensures.value c.message_of.ensures)
