use Rattle.std.proofs.Common.{ℕ, ◌+◌, ◌<◌, length}
use Rattle.pb_code.specs.View.{process_view}
use Rattle.pb_verifier.specs.Given.{instrs_of}
use Rattle.pb_verifier.specs.Places.{arms, entry}
use Rattle.pb_verifier.proofs.arms.entries_rise.Given as goal

abbrev pub invariant-loop-arm : goal.invariant-loop-arm
invariant-loop-arm l = record {
  inside : (a : ℕ) → a < l.arm → entry (process_view l.code) a < length (instrs_of l.code);
  rise : (a : ℕ) → a < l.arm → a + 1 < arms (process_view l.code) → entry (process_view l.code) a < entry (process_view l.code) (a + 1);
}
