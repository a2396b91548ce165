use Rattle.pb_machine.specs.Views.{machine_view}
use Rattle.pb_record.specs.Choices.{AreCandidatesBefore}
use Rattle.pb_record.proofs.choice.push_candidates.Given as goal

abbrev pub invariant-loop-arm : goal.invariant-loop-arm
invariant-loop-arm l = AreCandidatesBefore l.verified.code (machine_view l.machine) l.process l.arm l.picks.items
