use Rattle.std.proofs.Common.{◌<◌, ◌≤◌, ℕ}
use Rattle.pb_base.specs.Banker.{cell}
use Rattle.pb_verifier.proofs.limits.are_small_claims_of.Given as goal

abbrev pub invariant-loop-r : goal.invariant-loop-r
invariant-loop-r l = (r : ℕ) → r < l.r → cell l.claims l.p r ≤ 1000000
