use Rattle.std.proofs.Common.{◌≡◌, ◌++◌, map, take}
use Rattle.pb_tree.specs.View.{resource_view}
use Rattle.pb_warnings.specs.Warnings.{resource_warnings, warning}
use Rattle.pb_warnings.proofs.claimed.add_resources.Given as goal

abbrev pub invariant-loop-r : goal.invariant-loop-r
invariant-loop-r g l =
    map warning l.out.items
    ≡ map warning l.initial.out.items ++ resource_warnings l.text l.claims 0 (map resource_view (take l.r l.resources.items))
