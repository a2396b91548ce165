use Rattle.std.proofs.Common.{◌≡◌, ◌<◌, ℕ, Some}
use Rattle.std.specs.Prelude.{slice_get}
use Rattle.pb_plan.specs.declared.edge.Edge.{Edge}
use Rattle.pb_plan.proofs.circle.place_on.Given as goal

abbrev pub invariant-loop-k : goal.invariant-loop-k
invariant-loop-k l = (k : ℕ) (edge : Edge) → k < l.k → slice_get l.path k ≡ Some edge → edge.nest.inner ≡ l.r → ⊥
