use Rattle.std.proofs.Common.{◌≡◌, refl, arith, ℤ}
use Rattle.pb_code.specs.Code.{Push}
use Rattle.pb_code.specs.Limits.{IsSigned}
use Rattle.pb_verifier.specs.Given.{instrs_of}
use Rattle.pb_verifier.specs.Limits.{HasSmallNumbers}
use Rattle.pb_code.proofs.ListElements.{each_all}
use Rattle.pb_verifier.proofs.limits.are_small_instrs.Goals as goal

pub returns-clause-limits : goal.returns-clause-limits
returns-clause-limits c = (
  λ _. each_all (instrs_of c.args.code.now) c.loop-place.place (λ _ i. HasSmallNumbers i) (omega arith)
      c.loop-place.invariant.numbers,
  λ _. refl,
)

pub returns-clause-pushes : goal.returns-clause-pushes
returns-clause-pushes c =
    λ _ place v at. each_all (instrs_of c.args.code.now) c.loop-place.place
    (λ _ i. (w : ℤ) → i ≡ Push w → IsSigned w) (omega arith) c.loop-place.invariant.pushes place (Push v) at v refl
