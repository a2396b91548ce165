use Rattle.std.proofs.Common.{◌≡◌, ◌<◌, ℕ, Some, None, map}
use Rattle.std.specs.Prelude.{slice_get}
use Rattle.pb_names.specs.View.{process_view}
use Rattle.pb_plan.specs.Nests.{nest_among}
use Rattle.pb_plan.proofs.circle.edge_into.Given as goal

abbrev pub invariant-loop-k : goal.invariant-loop-k
invariant-loop-k g l = (k r : ℕ) → k < l.k → slice_get l.among k ≡ Some r
    → nest_among r l.inner (map process_view l.processes) ≡ None
