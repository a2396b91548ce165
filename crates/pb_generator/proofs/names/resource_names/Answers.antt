use Rattle.pb_generator.proofs.Loops.{more_written, each_written}
use Rattle.pb_generator.proofs.names.resource_names.Goals as goal

pub loop-resource-preserved : goal.loop-resource-preserved
loop-resource-preserved g c =
    more_written (λ v. v.name.items) _ _ c.deref.result.now c.deref-resource-items.result.now c.loop-resource.resource-index c.resource-item.result
    c.loop-resource.invariant c.loop-resource-test.true c.resource-item.is c.in_ok-add_name.ensures c.deref.ensures.value

pub returns : goal.returns
returns g c =
    each_written (λ v. v.name.items) _ c.deref-resource-items.result.now c.args.resources.now.items _ c.loop-resource.invariant c.loop-resource-test.false
    c.deref-resource-items.ensures.value
