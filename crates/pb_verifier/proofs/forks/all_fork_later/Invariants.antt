use Rattle.std.proofs.Common.{ℕ, ◌<◌}
use Rattle.pb_code.specs.View.{process_view}
use Rattle.pb_verifier.specs.Arms.{ForksLater}
use Rattle.pb_verifier.proofs.forks.all_fork_later.Given as goal

abbrev pub invariant-loop-arm : goal.invariant-loop-arm
invariant-loop-arm l = (a : ℕ) → a < l.arm → ForksLater (process_view l.code) a
