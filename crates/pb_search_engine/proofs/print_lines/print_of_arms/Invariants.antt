use Rattle.std.proofs.Common.{◌≡◌, ◌<◌, ℕ}
use Rattle.std.specs.Prelude.{ℤ}
use Rattle.pb_code.specs.Limits.{IsSigned}
use Rattle.pb_search_engine.specs.OutcomeLines.{arm_print_text}
use Rattle.pb_search_engine.proofs.print_lines.print_of_arms.Given as goal

abbrev pub invariant-loop-arm : goal.invariant-loop-arm
invariant-loop-arm l = (arm : ℕ) (value : ℤ) → arm < l.arm → IsSigned value → l.text ≡ arm_print_text arm value → ⊥
