use Rattle.std.proofs.Common.{◌<◌, ◌≤◌, ◌-◌, ℕ, slice_index}
use Rattle.pb_banker.proofs.accounts.Accounts.first_short.Given as goal

abbrev pub invariant-loop-r : goal.invariant-loop-r
invariant-loop-r l = (k : ℕ) → k < l.r → slice_index l.claims k - slice_index l.loans k ≤ slice_index l.available k
