use Rattle.std.proofs.Common.{◌≡◌, ◌++◌, map, take}
use Rattle.pb_tree.specs.View.{demand_view}
use Rattle.pb_outline.specs.Places.{demand_places, place}
use Rattle.pb_outline.proofs.walk.add_demands.Given as goal

abbrev pub invariant-loop-demand : goal.invariant-loop-demand
invariant-loop-demand g l =
    map place l.out.items ≡ map place l.initial.out.items ++ demand_places (map demand_view (take l.demand-index l.demand-items))
