use Rattle.std.proofs.Common.{◌<◌, ◌≤◌, ℕ}
use Rattle.pb_base.specs.Banker.{claim}
use Rattle.pb_banker.specs.Accounts.{state_of}
use Rattle.pb_banker.proofs.accounts.Accounts.is_claimed.Given as goal

abbrev pub invariant-loop-p : goal.invariant-loop-p
invariant-loop-p l = (q : ℕ) → q < l.p → claim (state_of l.self) q l.r ≤ l.amount
