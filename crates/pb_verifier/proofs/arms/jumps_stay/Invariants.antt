use Rattle.std.proofs.Common.{◌≡◌, ◌≤◌, ℕ, ◌<◌, Some}
use Rattle.std.specs.Prelude.{slice_get}
use Rattle.pb_code.specs.Code.{Instr}
use Rattle.pb_verifier.specs.Flow.{target_of}
use Rattle.pb_verifier.specs.Given.{instrs_of}
use Rattle.pb_verifier.proofs.arms.jumps_stay.Given as goal

abbrev pub invariant-loop-place : goal.invariant-loop-place
invariant-loop-place l =
    (p to : ℕ) (i : Instr) → l.begin ≤ p → p < l.place → slice_get (instrs_of l.code) p ≡ Some i → target_of i ≡ Some to → (l.begin ≤ to) × (to < l.end)
