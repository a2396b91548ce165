use Rattle.std.proofs.Common.{arith}
use Rattle.pb_debug.proofs.Positions.{few_arms}
use Rattle.pb_adapter.proofs.ArmLemmas.{small_process}
use Rattle.pb_adapter.proofs.arms.list_process.Goals as goal

pub list_arms-requires-clause-process : goal.list_arms-requires-clause-process
list_arms-requires-clause-process c =
    let small = small_process c.args.debugger.now c.threads.ensures.placed c.args.p c.requires in
    omega (arith, small)

pub list_arms-requires-clause-few : goal.list_arms-requires-clause-few
list_arms-requires-clause-few c =
    few_arms c.args.debugger.now c.threads.ensures.placed c.args.p _ c.in-Ok.ensures.shown
