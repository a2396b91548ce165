use Rattle.std.proofs.Common.{◌≡◌}
use Rattle.pb_machine.specs.Views.{machine_view, IsMachineOf}
use Rattle.pb_example_plan.proofs.TriedPicks.{NoJobBelow}
use Rattle.pb_example_plan.proofs.step.Given as goal

abbrev pub invariant-loop-job : goal.invariant-loop-job
invariant-loop-job l =
    NoJobBelow l.verified.code (machine_view l.initial.machine) l.job
    × (machine_view l.machine ≡ machine_view l.initial.machine) × IsMachineOf l.verified l.machine
