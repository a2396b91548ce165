use Rattle.std.proofs.Common.{◌≡◌, ℤ}
use Rattle.pb_code.specs.Code.{Push}
use Rattle.pb_code.specs.Limits.{IsSigned}
use Rattle.pb_verifier.specs.Given.{instrs_of}
use Rattle.pb_verifier.specs.Limits.{HasSmallNumbers}
use Rattle.pb_code.proofs.ListElements.{EachBelow}
use Rattle.pb_verifier.proofs.limits.are_small_instrs.Given as goal

abbrev pub invariant-loop-place : goal.invariant-loop-place
invariant-loop-place l = record {
  numbers : EachBelow (instrs_of l.code) l.place (λ _ i. HasSmallNumbers i);
  pushes : EachBelow (instrs_of l.code) l.place (λ _ i. (v : ℤ) → i ≡ Push v → IsSigned v);
}
