use Rattle.std.proofs.Common.{arith}
use Rattle.pb_outline.proofs.Walks.{processes_more}
use Rattle.pb_outline.proofs.walk.add_processes.Goals as goal

pub loop-p-preserved : goal.loop-p-preserved
loop-p-preserved g c =
    processes_more _ _ _ c.args.processes.now.items c.loop-p.p c.index.result.now c.index.ensures (omega arith)
    c.loop-p.invariant c.in_ok-add_process.ensures
