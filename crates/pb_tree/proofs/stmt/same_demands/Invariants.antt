use Rattle.std.proofs.Common.{◌≡◌, map, take}
use Rattle.pb_tree.specs.View.{demand_view}
use Rattle.pb_tree.proofs.stmt.same_demands.Given as goal

abbrev pub invariant-loop-i : goal.invariant-loop-i
invariant-loop-i g l =
    map demand_view (take l.i l.demands.items) ≡ map demand_view (take l.i l.others.items)
