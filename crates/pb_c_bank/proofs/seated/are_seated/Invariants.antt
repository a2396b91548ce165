use Rattle.std.proofs.Common.{ℕ, ◌<◌}
use Rattle.pb_base.specs.Banker.{row_of}
use Rattle.pb_banker.specs.Jobs.{IsUsed}
use Rattle.pb_c_bank.specs.Tables.{IsEmptyRow}
use Rattle.pb_c_bank.proofs.seated.are_seated.Given as goal

abbrev pub invariant-loop-p : goal.invariant-loop-p
invariant-loop-p l = record {
  rows : (k : ℕ) → k < l.p → IsUsed l.used k → k < l.accounts.processes;
  free : (k : ℕ) → k < l.p → k < l.accounts.processes → ¬ IsUsed l.used k
      → IsEmptyRow l.accounts.resources (row_of l.accounts.claims k);
}
