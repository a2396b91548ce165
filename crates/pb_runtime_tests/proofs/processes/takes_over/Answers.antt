use Rattle.pb_base.specs.declared.lending.Lending.TheVariants.{ByBanker}
use Rattle.pb_machine.proofs.Spares.{fit_rooms, fit_vars}
use Rattle.pb_runtime_tests.proofs.processes.takes_over.Goals as goal

pub set_to-requires-clause-vars : goal.set_to-requires-clause-vars
set_to-requires-clause-vars c =
    fit_vars c.args.code.now c.code.ensures.verified 0 _ _
    (c.in_ok-copy.ensures.process c.args.code.now 0 (c.proc.ensures.process ByBanker c.args.code.now c.in_ok-machine.ensures.machine))
    (c.proc-2.ensures.process ByBanker c.args.code.now (c.run_silent-made.ensures.machine ByBanker c.in_ok-machine.ensures.machine))

pub set_to-requires-clause-rooms : goal.set_to-requires-clause-rooms
set_to-requires-clause-rooms c =
    fit_rooms c.args.code.now c.code.ensures.verified 0 _ _
    (c.in_ok-copy.ensures.process c.args.code.now 0 (c.proc.ensures.process ByBanker c.args.code.now c.in_ok-machine.ensures.machine))
    (c.proc-2.ensures.process ByBanker c.args.code.now (c.run_silent-made.ensures.machine ByBanker c.in_ok-machine.ensures.machine))
