use Rattle.std.proofs.Common.{◌≡◌, ◌<◌, ℕ, Some, map}
use Rattle.std.specs.Prelude.{slice_get}
use Rattle.pb_names.specs.View.{process_view}
use Rattle.pb_plan.specs.Nests.{IsInside}
use Rattle.pb_plan.specs.declared.nest.Nest.{Nest}
use Rattle.pb_plan.proofs.order.first_free.Given as goal

abbrev pub invariant-loop-i : goal.invariant-loop-i
invariant-loop-i g l = (k r : ℕ) → k < l.i → slice_get l.among k ≡ Some r
    → (found : Nest) × IsInside (map process_view l.processes) l.among r found
