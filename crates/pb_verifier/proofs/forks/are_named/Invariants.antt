use Rattle.std.proofs.Common.{◌≡◌, ◌≤◌, ℕ, ◌<◌, true, false, get_or}
use Rattle.pb_verifier.proofs.forks.are_named.Given as goal

abbrev pub invariant-loop-arm : goal.invariant-loop-arm
invariant-loop-arm l = (b : ℕ) → 1 ≤ b → b < l.arm → get_or l.marks b false ≡ true
