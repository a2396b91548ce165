use Rattle.std.proofs.Common.{◌≡◌, ◌++◌, List, map}
use Rattle.pb_tree.specs.Syntax.{ResourceSyntax}
use Rattle.pb_joint.specs.Joined.{AddsResources}
use Rattle.pb_tree.specs.View.{resource_view}
use Rattle.pb_joint.proofs.joining.add_resources.Given as goal

abbrev pub invariant-loop-resource : goal.invariant-loop-resource
invariant-loop-resource g l =
    (added : List ResourceSyntax)
    × AddsResources (map resource_view l.initial.all.items) (map resource_view l.yielded) added
    × (map resource_view l.all.items ≡ map resource_view l.initial.all.items ++ added)
