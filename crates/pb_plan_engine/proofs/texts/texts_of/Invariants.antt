use Rattle.std.proofs.Common.{length, map}
use Rattle.pb_accept.specs.Checks.{IsLeft}
use Rattle.pb_plan_engine.proofs.texts.texts_of.Given as goal

abbrev pub invariant-loop-texts : goal.invariant-loop-texts
invariant-loop-texts l = IsLeft l.bytes (map (λ text. text.now) l.texts.items) l.rest

abbrev pub decreases-loop-texts : goal.decreases-loop-texts
decreases-loop-texts l = length l.rest
