use Rattle.std.proofs.Common.{◌≡◌, ◌<◌, ℕ, Some}
use Rattle.std.specs.Prelude.{slice_get}
use Rattle.pb_circles.specs.declared.link.Link.{Link}
use Rattle.pb_circles.proofs.circle.place_on.Given as goal

abbrev pub invariant-loop-k : goal.invariant-loop-k
invariant-loop-k l = (k : ℕ) (link : Link) → k < l.k → slice_get l.path k ≡ Some link → link.process ≡ l.p → ⊥
