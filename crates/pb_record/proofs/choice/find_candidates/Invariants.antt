use Rattle.pb_machine.specs.Views.{machine_view}
use Rattle.pb_record.specs.Choices.{AreCandidatesBefore}
use Rattle.pb_record.proofs.choice.find_candidates.Given as goal

abbrev pub invariant-loop-process : goal.invariant-loop-process
invariant-loop-process l = AreCandidatesBefore l.verified.code (machine_view l.machine) l.process 0 l.picks.items
