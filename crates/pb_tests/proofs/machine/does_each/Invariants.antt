use Rattle.pb_machine.specs.Views.{IsMachineOf}
use Rattle.pb_tests.proofs.machine.does_each.Given as goal

abbrev pub invariant-loop-act : goal.invariant-loop-act
invariant-loop-act l = IsMachineOf l.verified l.machine
