use Rattle.std.proofs.Common.{arith}
use Rattle.pb_warnings.proofs.Walks.{processes_more}
use Rattle.pb_warnings.proofs.warnings.add_processes.Goals as goal

pub loop-process-preserved : goal.loop-process-preserved
loop-process-preserved g c =
    processes_more c.args.text.now _ _ _ c.deref-process-items.result.now c.loop-process.process-index
    c.process-item.result c.process-item.is (omega arith) c.loop-process.invariant c.in_ok-add_process.ensures
