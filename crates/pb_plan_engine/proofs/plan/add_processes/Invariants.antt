use Rattle.std.proofs.Common.{◌≡◌, ◌++◌, map}
use Rattle.std.specs.Prelude.{slice_index_or}
use Rattle.pb_base.specs.Banker.{row_of}
use Rattle.pb_joint.specs.View.{full_name}
use Rattle.pb_names.specs.Program.{Skip}
use Rattle.pb_names.specs.Resolves.{resource_names}
use Rattle.pb_names.specs.View.{resolved_view}
use Rattle.pb_plan_engine.specs.Plans.{all_below, bodies_of, unnamed, said_of_row}
use Rattle.pb_plan_engine.specs.View.{said_view}
use Rattle.pb_plan_engine.proofs.plan.add_processes.Given as goal

abbrev pub invariant-loop-p : goal.invariant-loop-p
invariant-loop-p g l =
    let program = resolved_view l.program in
    map said_view l.said.items ≡ map said_view l.initial.said.items
    ++ all_below (λ p. said_of_row (resource_names program) (slice_index_or (map full_name l.names) p unnamed)
    (slice_index_or (bodies_of program) p Skip) (row_of l.claims p)) l.p
