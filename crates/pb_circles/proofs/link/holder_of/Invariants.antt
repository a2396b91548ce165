use Rattle.std.proofs.Common.{◌≡◌, ◌≢◌, ◌<◌, ℕ, Some}
use Rattle.std.specs.Prelude.{slice_get}
use Rattle.pb_banker.specs.Lenders.{lender_state}
use Rattle.pb_base.specs.Banker.{loan}
use Rattle.pb_circles.proofs.link.holder_of.Given as goal

abbrev pub invariant-loop-k : goal.invariant-loop-k
invariant-loop-k l = (j holder : ℕ) → j < l.k → slice_get l.among j ≡ Some holder → holder ≢ l.p
    → 0 < loan (lender_state l.bank) holder l.r → ⊥
