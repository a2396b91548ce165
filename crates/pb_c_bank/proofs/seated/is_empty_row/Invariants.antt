use Rattle.pb_c_bank.specs.Tables.{IsEmptyRow}
use Rattle.pb_c_bank.proofs.seated.is_empty_row.Given as goal

abbrev pub invariant-loop-r : goal.invariant-loop-r
invariant-loop-r l = IsEmptyRow l.r l.row
