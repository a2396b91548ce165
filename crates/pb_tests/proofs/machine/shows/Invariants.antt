use Rattle.pb_machine.specs.Views.{IsMachineOf}
use Rattle.pb_tests.proofs.machine.shows.Given as goal

abbrev pub invariant-loop-round : goal.invariant-loop-round
invariant-loop-round l = IsMachineOf l.verified l.machine

abbrev pub invariant-loop-pick : goal.invariant-loop-pick
invariant-loop-pick l = IsMachineOf l.verified l.machine
