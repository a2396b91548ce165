use Rattle.std.proofs.Common.{[]}
use Rattle.pb_search.specs.Deadlocks.{stuck_view}
use Rattle.pb_search.specs.declared.found.StuckState.TheVariants.{Ended}
use Rattle.pb_search_engine.specs.Parts.{stuck_parts}
use Rattle.pb_search_engine.proofs.PartLemmas.{viewed_more}
use Rattle.pb_search_engine.proofs.parts.put_deadlock_parts.Goals as goal

pub loop-p-preserved : goal.loop-p-preserved
loop-p-preserved c =
    viewed_more stuck_view c.args.processes.now (record { integers = []; state = Ended; holds = []; asks = [] }) stuck_parts c.loop-p.p c.index-processes-p.result c.args.parts.now.items
    c.loop-p.parts.items _ c.loop-p-test.true c.index-processes-p.is c.loop-p.invariant c.in_ok-put_stuck.ensures
