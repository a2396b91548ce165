use Rattle.std.proofs.Common.{◌≡◌}
use Rattle.pb_machine.specs.Views.{machine_view, IsMachineOf}
use Rattle.pb_example_plan.proofs.TriedPicks.{NoArmBelow}
use Rattle.pb_example_plan.proofs.step_job.Given as goal

abbrev pub invariant-loop-arm : goal.invariant-loop-arm
invariant-loop-arm l =
    NoArmBelow l.verified.code (machine_view l.initial.machine) l.job l.arm
    × (machine_view l.machine ≡ machine_view l.initial.machine) × IsMachineOf l.verified l.machine
