use Rattle.std.proofs.Common.{ℕ, ◌<◌}
use Rattle.pb_code.specs.View.{process_view}
use Rattle.pb_verifier.specs.Arms.{JumpsStay, IsClosed}
use Rattle.pb_verifier.proofs.arms.has_arms.Given as goal

abbrev pub invariant-loop-arm : goal.invariant-loop-arm
invariant-loop-arm l = (a : ℕ) → a < l.arm → JumpsStay (process_view l.code) a × IsClosed (process_view l.code) a
