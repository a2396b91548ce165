use Rattle.pb_generator.proofs.Loops.{more_written, each_written}
use Rattle.pb_generator.proofs.names.process_names.Goals as goal

pub loop-process-preserved : goal.loop-process-preserved
loop-process-preserved g c =
    more_written (λ v. v.name.items) _ _ c.deref.result.now c.deref-process-items.result.now c.loop-process.process-index c.process-item.result
    c.loop-process.invariant c.loop-process-test.true c.process-item.is c.in_ok-add_name.ensures c.deref.ensures.value

pub returns : goal.returns
returns g c =
    each_written (λ v. v.name.items) _ c.deref-process-items.result.now c.args.processes.now.items _ c.loop-process.invariant c.loop-process-test.false
    c.deref-process-items.ensures.value
