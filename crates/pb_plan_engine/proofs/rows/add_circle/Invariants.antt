use Rattle.std.proofs.Common.{◌≡◌, ◌++◌, map, take}
use Rattle.pb_joint.specs.View.{full_name}
use Rattle.pb_plan_engine.specs.Plans.{said_of_circle}
use Rattle.pb_plan_engine.specs.View.{said_view}
use Rattle.pb_plan_engine.proofs.rows.add_circle.Given as goal

abbrev pub invariant-loop-edge : goal.invariant-loop-edge
invariant-loop-edge g l =
    map said_view l.said.items ≡ map said_view l.initial.said.items
    ++ said_of_circle (map full_name l.processes) (map (λ r. r.name.items) l.resources) (take l.edge-index l.circle)
