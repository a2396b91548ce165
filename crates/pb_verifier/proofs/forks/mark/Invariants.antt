use Rattle.std.proofs.Common.{◌≡◌, ◌⊎◌, ◌↔◌, ◌≤◌, ℕ, ◌<◌, true, false, length, get_or}
use Rattle.pb_verifier.proofs.forks.mark.Given as goal

abbrev pub invariant-loop-arm : goal.invariant-loop-arm
invariant-loop-arm l = record {
  free : (b : ℕ) → l.first ≤ b → b < l.arm → get_or l.fn.marks b false ≡ false;
  marked : (b : ℕ) → b < length l.fn.marks → ((get_or l.marks b false ≡ true) ↔ ((get_or l.fn.marks b false ≡ true) ⊎ ((l.first ≤ b) × (b < l.arm))));
}
