use Rattle.std.proofs.Common.{◌<◌, ◌≤◌, ℕ}
use Rattle.pb_base.specs.Banker.{cell}
use Rattle.pb_verifier.proofs.limits.are_small_claims.Given as goal

abbrev pub invariant-loop-p : goal.invariant-loop-p
invariant-loop-p l = (q r : ℕ) → q < l.p → r < l.resources → cell l.claims q r ≤ 1000000
