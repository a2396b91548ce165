use Rattle.std.proofs.Common.{◌≡◌, ◌++◌, map, take}
use Rattle.pb_tree.specs.View.{resource_view}
use Rattle.pb_outline.specs.Places.{resource_places, place}
use Rattle.pb_outline.proofs.walk.add_resources.Given as goal

abbrev pub invariant-loop-resource : goal.invariant-loop-resource
invariant-loop-resource g l =
    map place l.out.items ≡ map place l.initial.out.items ++ resource_places (map resource_view (take l.resource-index l.resource-items))
