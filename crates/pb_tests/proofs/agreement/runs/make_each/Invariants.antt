use Rattle.pb_machine.specs.Views.{IsMachineOf}
use Rattle.pb_rewrite.specs.Sources.{IsSource}
use Rattle.pb_tests.proofs.agreement.runs.make_each.Given as goal

abbrev pub invariant-loop-made : goal.invariant-loop-made
invariant-loop-made l = IsMachineOf l.compiled.verified l.machine × IsSource l.source
