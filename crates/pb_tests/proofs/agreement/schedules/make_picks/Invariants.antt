use Rattle.pb_machine.specs.Views.{IsMachineOf}
use Rattle.pb_rewrite.specs.Sources.{IsSource}
use Rattle.pb_tests.proofs.agreement.schedules.make_picks.Given as goal

abbrev pub invariant-loop-made : goal.invariant-loop-made
invariant-loop-made l =
    IsMachineOf l.compiled.verified l.machine × IsMachineOf l.compiled.verified l.beside × IsSource l.source
