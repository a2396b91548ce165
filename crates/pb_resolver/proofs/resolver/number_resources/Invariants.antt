use Rattle.std.proofs.Common.{map, take}
use Rattle.std.specs.List.{AllZip}
use Rattle.pb_tree.specs.View.{resource_view}
use Rattle.pb_names.specs.Resolves.{ResolvesResource}
use Rattle.pb_names.specs.View.{resource_view as resource_of}
use Rattle.pb_resolver.proofs.resolver.number_resources.Given as goal

abbrev pub invariant-loop-resource : goal.invariant-loop-resource
invariant-loop-resource g l =
    AllZip ResolvesResource (take l.resource-index (map resource_view l.resources.items)) (map resource_of l.list.items)
