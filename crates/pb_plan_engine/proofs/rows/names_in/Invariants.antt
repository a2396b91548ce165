use Rattle.std.proofs.Common.{◌≡◌, map, take}
use Rattle.pb_plan_engine.specs.Plans.{resource_name}
use Rattle.pb_plan_engine.proofs.rows.names_in.Given as goal

abbrev pub invariant-loop-r : goal.invariant-loop-r
invariant-loop-r g l =
    map (λ name. name.items) l.names.items ≡ map (resource_name (map (λ q. q.name.items) l.resources)) (take l.r-index l.order)
