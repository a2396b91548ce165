use Rattle.std.proofs.Common.{◌≡◌, ◌<◌, ℕ, Some, None, map}
use Rattle.std.specs.Prelude.{slice_get}
use Rattle.pb_names.specs.Program.{Process}
use Rattle.pb_names.specs.View.{process_view}
use Rattle.pb_plan.specs.Nests.{nest}
use Rattle.pb_plan.proofs.circle.edge_between.Given as goal

abbrev pub invariant-loop-p : goal.invariant-loop-p
invariant-loop-p g l = (k : ℕ) (process : Process) → k < l.p → slice_get (map process_view l.processes) k ≡ Some process
    → nest l.outer l.inner None process.body ≡ None
