use Rattle.pb_machine.specs.Views.{IsMachineOf}
use Rattle.pb_rewrite.specs.Sources.{IsSource}
use Rattle.pb_tests.proofs.agreement.replays.takes_turns.Given as goal

abbrev pub invariant-loop-turn : goal.invariant-loop-turn
invariant-loop-turn l = IsMachineOf l.compiled.verified l.machine × IsSource l.source
