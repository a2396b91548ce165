use Rattle.std.proofs.Common.{◌≡◌, length}
use Rattle.pb_base.specs.declared.lending.Lending.{Lending}
use Rattle.pb_machine.specs.Views.{machine_view, IsMachine, IsMachineBy}
use Rattle.pb_record.proofs.ChoiceLemmas.{AreLeft}
use Rattle.pb_record.proofs.choice.step_drawn.Given as goal

abbrev pub invariant-loop-candidates : goal.invariant-loop-candidates
invariant-loop-candidates l = record {
  same : machine_view l.machine ≡ machine_view l.initial.machine;
  some : IsMachine l.verified l.machine;
  machine : (lending : Lending) → IsMachineBy lending l.verified l.initial.machine → IsMachineBy lending l.verified l.machine;
  left : (lending : Lending) → IsMachineBy lending l.verified l.initial.machine
      → AreLeft lending l.verified.code (machine_view l.initial.machine) l.initial.generator l.candidates.items l.generator;
}

abbrev pub decreases-loop-candidates : goal.decreases-loop-candidates
decreases-loop-candidates l = length l.candidates.items
