use Rattle.std.proofs.Common.{inl}
use Rattle.pb_base.proofs.Results.{on_ok}
use Rattle.pb_debug.proofs.debugger.Debugger.say_does.Goals as goal

pub returns : goal.returns
returns c =
    on_ok c.say_does_of.result _ _ c.say_does_of.ensures
    (λ s. (s.0, inl (c.in-Some.p, c.in-Some.ensures.some, s.1), s.2))
