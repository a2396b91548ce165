use Rattle.std.proofs.Common.{◌≡◌, map, take}
use Rattle.pb_tree.specs.View.{demand_view}
use Rattle.pb_tree.proofs.stmt.copy_demands.Given as goal

abbrev pub invariant-loop-demand : goal.invariant-loop-demand
invariant-loop-demand g l =
    map demand_view l.copy.items ≡ map demand_view (take l.demand-index l.demand-items)
