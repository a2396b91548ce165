use Rattle.std.proofs.Common.{inl, inr}
use Rattle.pb_base.proofs.Results.{on_ok}
use Rattle.pb_debug.proofs.debugger.Debugger.say_pick.Goals as goal

pub returns-in-Ok-clause-said : goal.returns-in-Ok-clause-said
returns-in-Ok-clause-said c =
    on_ok c.say_tried.result _ _ c.say_tried.ensures.said
    (λ s. (s.0, inl (c.in-Some.p, c.in-Some.ensures.some, inr (c.in-Ok.ensures.arm, s.1)), s.2))
