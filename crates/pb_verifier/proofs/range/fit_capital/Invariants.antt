use Rattle.std.proofs.Common.{ℕ, ◌<◌, ◌≤◌, length, get_or}
use Rattle.pb_base.specs.Banker.{cell}
use Rattle.pb_verifier.proofs.range.fit_capital.Given as goal

abbrev pub invariant-loop-p : goal.invariant-loop-p
invariant-loop-p l = (q r : ℕ) → q < l.p → r < length l.code.capital → cell l.code.claims q r ≤ get_or l.code.capital r 0
