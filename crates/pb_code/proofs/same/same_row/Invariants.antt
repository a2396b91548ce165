use Rattle.std.proofs.Common.{◌≡◌, ℕ, ◌<◌}
use Rattle.pb_base.specs.Banker.{cell}
use Rattle.pb_code.proofs.same.same_row.Given as goal

abbrev pub invariant-loop-r : goal.invariant-loop-r
invariant-loop-r l = (k : ℕ) → k < l.r → cell l.claims l.p k ≡ cell l.other l.p k
