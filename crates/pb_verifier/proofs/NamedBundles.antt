-- The bundles that verified code names.
use Rattle.std.proofs.Common.{◌≡◌, inl, inr, ℕ, ◌<◌, [], length, get_or, Some, option_map, ap, ◌∙◌, arith}
use Rattle.std.specs.Prelude.{slice_get}
use Rattle.std.proofs.lemmas.Bool.{cases_lt}
use Rattle.std.proofs.lemmas.List.{get_or_past}
use Rattle.std.proofs.lemmas.Option.{slice_get-map}
use Rattle.pb_base.specs.Steppers.{Bundle}
use Rattle.pb_code.specs.Bundles.{NamesBundles}
use Rattle.pb_code.specs.Code.{Instr, Take}
use Rattle.pb_code.specs.declared.code.ProcessCode.{ProcessCode as GivenProcess}
use Rattle.pb_code.specs.declared.instr.Instr.TheVariants as given
use Rattle.pb_code.specs.Limits.{HasSmallNumbers, IsSmallBundle}
use Rattle.pb_code.specs.View.{process_view, instr_view}
use Rattle.pb_verifier.specs.Verified.{VerifiedCode, IsVerified}
use Rattle.pb_verifier.specs.declared.fault.VerifyFault.TheVariants.{OutOfLimits}

-- verified code names a bundle at each take
pub names_bundles : (v : VerifiedCode) → IsVerified v → (p : ℕ) (code : GivenProcess)
    → slice_get v.code.processes p ≡ Some (process_view code) → NamesBundles code
names_bundles v verified p code there = record { takes = go }
  where
    limits : (place : ℕ) (i : Instr) → slice_get (process_view code).instrs place ≡ Some i → HasSmallNumbers i
    limits = ((verified.faultless OutOfLimits).each p (process_view code) there).numbers

    go : (place k : ℕ) → slice_get code.instrs.items place ≡ Some (given.Take k) → k < length code.bundles.items
    go place k at = elim (cases_lt k (length code.bundles.items)) [
      | inl lt ↦ lt
      | inr past ↦
          let viewed : slice_get (process_view code).instrs place ≡ Some (Take (get_or code.bundles.items k [])) =
          slice_get-map (instr_view code.bundles.items) code.instrs.items place ∙ ap (option_map (instr_view code.bundles.items)) at in
          let empty : slice_get (process_view code).instrs place ≡ Some (Take []) = viewed ∙ ap (λ (b : Bundle). Some
          (Take b)) (get_or_past code.bundles.items k [] past) in
          let small : IsSmallBundle [] = limits place (Take []) empty in
          absurd (omega (arith, small.size.0))
    ]
