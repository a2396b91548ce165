use Rattle.std.proofs.Common.{◌≡◌, ◌+◌, ◌≤◌, ℕ, ◌<◌, Some}
use Rattle.std.specs.Prelude.{slice_get}
use Rattle.pb_code.specs.Code.{Fork}
use Rattle.pb_code.specs.View.{process_view}
use Rattle.pb_verifier.specs.Given.{instrs_of}
use Rattle.pb_verifier.specs.Places.{arms}
use Rattle.pb_verifier.proofs.forks.forks_later.Given as goal

abbrev pub invariant-loop-place : goal.invariant-loop-place
invariant-loop-place l =
    (p first count : ℕ) → l.begin ≤ p → p < l.place → slice_get (instrs_of l.code) p ≡ Some (Fork first count)
    → (l.arm < first) × (first + count ≤ arms (process_view l.code))
