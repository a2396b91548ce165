use Rattle.std.proofs.Common.{All, take}
use Rattle.pb_base.specs.Lines.{HasProcess, names_view}
use Rattle.pb_runtime_tests.proofs.picks.have_names.Given as goal

abbrev pub invariant-loop-i : goal.invariant-loop-i
invariant-loop-i l = All (λ c. HasProcess (names_view l.names) c.pick.process) (take l.i l.picks)
