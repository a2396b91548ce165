use Rattle.std.proofs.Common.{◌≡◌, length, drop, replicate}
use Rattle.pb_bank.specs.Answers.{with_amounts}
use Rattle.pb_bank.proofs.come.row_of.Given as goal

abbrev pub invariant-loop-i : goal.invariant-loop-i
invariant-loop-i l = record {
  same : with_amounts (replicate 16 0) l.bundle ≡ with_amounts l.row (drop l.i l.bundle);
  long : length l.row ≡ 16;
}
