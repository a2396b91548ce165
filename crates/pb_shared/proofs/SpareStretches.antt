-- Spares that are taken and brought back.
use Rattle.std.specs.declared.alloc.Global.{Global}
use Rattle.std.proofs.Common.{Box, ◌≡◌, ℕ, zero, suc, ◌+◌, ⊎_elim, List, [], ◌∷◌, ◌++◌, length, replicate, Option}
use Rattle.std.proofs.Common.{Some, None, refl, sym, ap, ◌∙◌, subst, slice_get, slice_set, length-set, arith}
use Rattle.std.proofs.lemmas.Bool.{cases_eq}
use Rattle.std.proofs.lemmas.List.{length-replicate}
use Rattle.pb_machine.specs.Views.{IsProcessOf}
use Rattle.pb_verifier.proofs.States.{slice_set_same, slice_set_other}
use Rattle.pb_verifier.specs.Verified.{VerifiedCode}
use Rattle.pb_shared.specs.Spares.{AreSpares, IsSpareOf}
use Rattle.pb_shared.specs.declared.slip.Slip.{Slip}
use Rattle.pb_shared.specs.declared.spare.Spare.{Spare}

none_there : (n p : ℕ) (x : Box Spare Global) → slice_get (replicate n None) p ≡ Some (Some x) → ⊥
none_there zero p x h = cc
none_there (suc n) zero x h = cc
none_there (suc n) (suc p) x h = none_there n p x h

pub none_more : {X : Type 0} (x : X) (n : ℕ) → replicate n x ++ x ∷ [] ≡ replicate (n + 1) x
none_more x zero = refl
none_more x (suc n) = ap (λ xs. x ∷ xs) (none_more x n) ∙ ap (λ (k : ℕ). replicate k x) (let e : suc (n + 1) ≡ suc n + 1 = omega arith in e)

module _ (code : VerifiedCode) where
  -- nothing was lent yet
  pub spares_new : (n : ℕ) (slips : List (Option Slip)) (spares : List (Option (Box Spare Global))) → slips ≡ replicate n None →
      spares ≡ replicate n None → AreSpares code slips spares
  spares_new n slips spares home none = record {
    all = ap length none ∙ (length-replicate n None ∙ (sym (length-replicate n None) ∙ sym (ap length home)));
    each = λ p spare h. elim (none_there n p spare (ap (λ (xs : List (Option (Box Spare Global))). slice_get xs p) (sym none) ∙ h)) [ ];
  }

  -- one whose state is another
  pub spare_after : (p : ℕ) (spare after : Spare) → after.base ≡ spare.base → IsSpareOf code p spare → IsProcessOf code p after.state → IsSpareOf code p after
  spare_after p spare after base is state = record { base = subst (IsProcessOf code p) (sym base) is.base; state = state }

  -- the one that is put in a place
  pub spare_at : (p : ℕ) (spare : Box Spare Global) → IsSpareOf code p spare.value → (found : Box Spare Global)
      → Some spare ≡ Some found → IsSpareOf code p found.value
  spare_at p spare is found same = subst (λ (x : Box Spare Global). IsSpareOf code p x.value) (let e : spare ≡ found = cc in e) is

  -- none is put there
  pub none_at : (p : ℕ) (o : Option (Box Spare Global)) → o ≡ None → (found : Box Spare Global) → o ≡ Some found → IsSpareOf code p found.value
  none_at p o is found same = let e : None ≡ Some found = sym is ∙ same in cc

  module _ (slips : List (Option Slip)) (spares : List (Option (Box Spare Global))) (are : AreSpares code slips spares) (p : ℕ) where
    -- another slip of a process
    pub spares_stay : (slip : Option Slip) → AreSpares code (slice_set slips p slip) spares
    spares_stay slip = record { all = are.all ∙ sym (length-set slips p slip); each = are.each }

    -- its spare, brought back or taken away
    abbrev IsSpareIn : Option (Box Spare Global) → Type 0
    IsSpareIn spare = (found : Box Spare Global) → spare ≡ Some found → IsSpareOf code p found.value

    pub spares_with : (spare : Option (Box Spare Global)) → IsSpareIn spare → AreSpares code slips (slice_set spares p spare)
    spares_with spare is = record {
      all = length-set spares p spare ∙ are.all;
      each = λ q found h. ⊎_elim
          (λ same. subst (λ (k : ℕ). IsSpareOf code k found.value) (sym same)
          (is found (slice_set_same spares p spare (Some found) (subst (λ (k : ℕ). slice_get (slice_set spares p spare) k ≡ Some (Some found)) same h))))
          (λ other. are.each q found (sym (slice_set_other spares p q spare other) ∙ h))
          (cases_eq q p);
    }
