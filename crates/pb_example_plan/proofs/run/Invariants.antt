use Rattle.pb_machine.specs.Views.{IsMachineOf}
use Rattle.pb_example_plan.proofs.run.Given as goal

abbrev pub invariant-loop-made : goal.invariant-loop-made
invariant-loop-made g l = IsMachineOf l.verified l.machine
