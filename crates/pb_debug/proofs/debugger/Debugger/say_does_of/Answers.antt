use Rattle.std.proofs.Common.{inr}
use Rattle.pb_base.proofs.Results.{on_ok}
use Rattle.pb_debug.proofs.debugger.Debugger.say_does_of.Goals as goal

pub returns-in-Ok : goal.returns-in-Ok
returns-in-Ok c =
    on_ok c.say_next_pick.result _ _ c.say_next_pick.ensures (λ s. (s.0, inr (c.in-Ok.ensures.arm, s.1), s.2))
