use Rattle.std.proofs.Common.{◌≡◌, ◌<◌, ℕ, length, get_or}
use Rattle.pb_code.specs.View.{process_view}
use Rattle.pb_verifier.specs.Verified.{IsDepthOf}
use Rattle.pb_verifier.proofs.deepest.arm_depths.Given as goal

abbrev pub invariant-loop-arm : goal.invariant-loop-arm
invariant-loop-arm l = record {
  all : length l.row.items ≡ l.arm;
  greatest : (a : ℕ) → a < l.arm → IsDepthOf (process_view l.code) a (get_or l.row.items a 0);
}
