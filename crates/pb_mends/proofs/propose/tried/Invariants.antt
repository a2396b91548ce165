use Rattle.std.proofs.Common.{All}
use Rattle.pb_mends.specs.Mends.{Mends, edit_of}
use Rattle.pb_mends.proofs.propose.tried.Given as goal

abbrev pub invariant-loop-mend : goal.invariant-loop-mend
invariant-loop-mend l = All (λ mend. Mends l.text (edit_of mend)) l.out.items
