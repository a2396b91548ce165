use Rattle.std.proofs.Common.{◌≡◌, drop, true}
use Rattle.pb_adapter.specs.Answers.{refuses_from}
use Rattle.pb_adapter.proofs.evaluate.refuses.Given as goal

abbrev pub invariant-loop-i : goal.invariant-loop-i
invariant-loop-i l = refuses_from true l.text ≡ refuses_from l.start (drop l.i l.text)
