use Rattle.std.proofs.Common.{arith, map, length, ap}
use Rattle.std.proofs.lemmas.List.{take_all, length-map}
use Rattle.pb_tree.specs.View.{resource_view}
use Rattle.pb_names.specs.Causes.{InResource}
use Rattle.pb_names.specs.Resolves.{ResolvesResource}
use Rattle.pb_names.specs.View.{resource_view as resource_of}
use Rattle.pb_base.proofs.Lists.{view_read}
use Rattle.pb_names.proofs.FirstCauses.{free_at, free_right}
use Rattle.pb_names.proofs.Wholes.{zip_view_more}
use Rattle.pb_resolver.proofs.resolver.number_resources.Goals as goal

pub loop-resource-preserved : goal.loop-resource-preserved
loop-resource-preserved g c =
    let rs = c.args.resources.now.items in
    let r = c.resource-item.result in
    let i = c.loop-resource.resource-index in
    let read = view_read resource_view rs _ i r c.deref-resource-items.ensures.value (omega arith) c.resource-item.is in
    zip_view_more ResolvesResource resource_view resource_of rs _ _ i r _
    read c.in_ok-push.ensures.items c.loop-resource.invariant c.in_ok-number_resource.ensures

pub returns : goal.returns
returns g c =
    let rs = c.args.resources.now.items in
    rw (← take_all c.loop-resource.resource-index (map resource_view rs)
    (omega (arith, length-map rs resource_view, ap length c.deref-resource-items.ensures.value)))
    c.loop-resource.invariant

pub number_resource-requires : goal.number_resource-requires
number_resource-requires g c =
    let rs = c.args.resources.now.items in
    let r = c.resource-item.result in
    let i = c.loop-resource.resource-index in
    let read = view_read resource_view rs _ i r c.deref-resource-items.ensures.value (omega arith) c.resource-item.is in
    free_right (free_at InResource (map resource_view rs) i (resource_view r) read c.requires)
