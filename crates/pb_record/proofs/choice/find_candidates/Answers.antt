use Rattle.std.proofs.Common.{arith, rules}
use Rattle.pb_machine.specs.Views.{machine_view}
use Rattle.pb_record.proofs.ChoiceLemmas.{all_found}
use Rattle.pb_machine.proofs.Counts.{few_processes}
use Rattle.pb_record.proofs.choice.find_candidates.Goals as goal

pub overflow_cast-process : goal.overflow_cast-process
overflow_cast-process c =
    let few = few_processes c.args.verified.now c.requires.verified c.args.machine.now c.requires.machine.1 in
    omega (arith, few)

pub returns : goal.returns
returns c =
    let test = c.loop-process-test.false in
    let count = c.processes-process-end.ensures in
    all_found c.args.verified.now.code (machine_view c.args.machine.now) c.loop-process.process c.loop-process.picks.items
    c.loop-process.invariant (omega (arith, test, count))

pub loop-process-init : goal.loop-process-init
loop-process-init c = search rules fits 100
