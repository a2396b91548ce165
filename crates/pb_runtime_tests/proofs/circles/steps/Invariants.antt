use Rattle.pb_machine.specs.Views.{IsMachine}
use Rattle.pb_runtime_tests.proofs.circles.steps.Given as goal

abbrev pub invariant-loop-k : goal.invariant-loop-k
invariant-loop-k l = IsMachine l.verified l.machine
