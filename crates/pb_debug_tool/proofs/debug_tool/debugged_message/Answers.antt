use Rattle.std.proofs.Common.{Bool, true, false, subst, sym}
use Rattle.std.specs.Prelude.{IfOk}
use Rattle.pb_base.specs.declared.lending.Lending.{Lending}
use Rattle.pb_options.specs.Lends.{lending_for}
use Rattle.pb_debug_tool.specs.Debug.{tells_debugged}
use Rattle.pb_debug_tool.proofs.debug_tool.debugged_message.Goals as goal

pub returns-then-flags : goal.returns-then-flags
returns-then-flags c =
    let bytes = c.args.bytes.now in
    subst (λ (live : Bool). IfOk c.live_message.result (λ message. tells_debugged live (lending_for c.args.flags.lend) bytes message.items))
    (sym c.if-flags.true)
    (subst (λ (l : Lending). IfOk c.live_message.result (λ message. tells_debugged true l bytes message.items))
    c.lending-lending.ensures c.live_message.ensures)

pub returns-else-flags : goal.returns-else-flags
returns-else-flags c =
    let bytes = c.args.bytes.now in
    subst (λ (live : Bool). IfOk c.message_of.result (λ message. tells_debugged live (lending_for c.args.flags.lend) bytes message.items))
    (sym c.if-flags.false)
    (subst (λ (l : Lending). IfOk c.message_of.result (λ message. tells_debugged false l bytes message.items))
    c.lending-lending.ensures c.message_of.ensures)
