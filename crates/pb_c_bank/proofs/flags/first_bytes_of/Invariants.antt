use Rattle.std.proofs.Common.{◌≡◌, ℕ, ◌<◌, ◌≤◌, cond, length, get_or, false}
use Rattle.pb_c_bank.proofs.flags.first_bytes_of.Given as goal

abbrev pub invariant-loop-p : goal.invariant-loop-p
invariant-loop-p l = record {
  same : (k : ℕ) → k < l.p → get_or l.bytes k 0 ≡ cond (get_or l.set k false) 1 0;
  none : (k : ℕ) → l.p ≤ k → get_or l.bytes k 0 ≡ 0;
  length : length l.bytes ≡ 64;
}
