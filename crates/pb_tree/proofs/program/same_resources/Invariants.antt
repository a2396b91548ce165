use Rattle.std.proofs.Common.{◌≡◌, map, take}
use Rattle.pb_tree.specs.View.{resource_view}
use Rattle.pb_tree.proofs.program.same_resources.Given as goal

abbrev pub invariant-loop-i : goal.invariant-loop-i
invariant-loop-i g l =
    map resource_view (take l.i l.items.items) ≡ map resource_view (take l.i l.others.items)
