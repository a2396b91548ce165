use Rattle.std.proofs.Common.{◌≡◌, ◌<◌, ◌↔◌, ℕ, IsTrue, slice_index_or, false, length}
use Rattle.pb_base.specs.Banker.{claim}
use Rattle.pb_banker.specs.Accounts.{state_of}
use Rattle.pb_banker.proofs.accounts.Accounts.claimed.Given as goal

abbrev pub invariant-loop-p : goal.invariant-loop-p
invariant-loop-p l = record {
  over : (q : ℕ) → q < l.p → (IsTrue (slice_index_or l.slots q false) ↔ l.amount < claim (state_of l.self) q l.r);
  length : length l.slots ≡ 64;
}
