use Rattle.std.proofs.Common.{◌≡◌, map, take}
use Rattle.pb_tree.specs.View.{resource_view}
use Rattle.pb_tree.proofs.program.copy_resources.Given as goal

abbrev pub invariant-loop-item : goal.invariant-loop-item
invariant-loop-item g l =
    map resource_view l.copy.items ≡ map resource_view (take l.item-index l.item-items)
