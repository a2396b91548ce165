use Rattle.std.proofs.Common.{arith, rules}
use Rattle.pb_machine.specs.Views.{machine_view}
use Rattle.pb_example_plan.proofs.TriedPicks.{none_at_all}
use Rattle.pb_machine.proofs.Counts.{few_processes}
use Rattle.pb_example_plan.proofs.step.Goals as goal

pub overflow_cast-job : goal.overflow_cast-job
overflow_cast-job c =
    let few = few_processes c.args.verified.now c.requires.verified c.args.machine.now c.requires.machine in
    omega (arith, few)

pub returns-clause-step : goal.returns-clause-step
returns-clause-step c =
    let before = c.loop-job.invariant in
    none_at_all c.args.verified.now (machine_view c.args.machine.now) _ c.loop-job.job c.requires.verified c.requires.machine.reached
    before.0 before.1 (omega arith)

pub loop-job-init : goal.loop-job-init
loop-job-init c = search rules fits 100
