use Rattle.pb_generator.proofs.Loops.{more_written, each_written}
use Rattle.pb_generator.proofs.names.copy_names.Goals as goal

pub loop-name-preserved : goal.loop-name-preserved
loop-name-preserved g c =
    more_written (λ v. v.items) _ _ c.deref.result.now c.deref-name-items.result.now c.loop-name.name-index c.name-item.result
    c.loop-name.invariant c.loop-name-test.true c.name-item.is c.in_ok-add_name.ensures c.deref.ensures.value

pub returns : goal.returns
returns g c =
    each_written (λ v. v.items) _ c.deref-name-items.result.now c.args.names.now.items _ c.loop-name.invariant c.loop-name-test.false
    c.deref-name-items.ensures.value
