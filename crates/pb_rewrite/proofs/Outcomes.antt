-- What the steps of an arm's parts say of the arm.
use Rattle.std.proofs.Common.{◌≡◌, ◌≢◌, ◌++◌, ◌∷◌, ℕ, ℤ, List, Result, Ok, Err, Some, ap, subst, refl, sym, ◌∙◌}
use Rattle.std.specs.Prelude.{IfOk, IfErr}
use Rattle.pb_base.specs.Banker.{BankerState, IsAllowed}
use Rattle.pb_base.specs.Steppers.{Bundle, Silent}
use Rattle.pb_banker.specs.Asking.{Answers}
use Rattle.pb_banker.specs.declared.answer.Answer.{Answer}
use Rattle.pb_banker.specs.declared.answer.Answer.TheVariants.{Granted}
use Rattle.pb_names.specs.Program.{Block}
use Rattle.pb_names.specs.Source as plain
use Rattle.pb_names.specs.Source.{Item, items_of, GiveBack, step_items, Goes, step_arm, Doing}
use Rattle.pb_rewrite.specs.Steps.{AreBelow, AsksBelow, IsArmStep, IsFreeStep, IsUnchanged, LeavesArm, StepsItems}
use Rattle.pb_rewrite.specs.View.{arm_view}
use Rattle.pb_rewrite.specs.declared.arm.Arm.{Arm}
use Rattle.pb_rewrite.specs.declared.stepping.Stepped.{Stepped}
use Rattle.pb_rewrite.specs.declared.stepping.Outcome.{Outcome}
use Rattle.pb_rewrite.specs.declared.stepping.Outcome.TheVariants as outcome
use Rattle.pb_rewrite.proofs.TestSteps.{silently}

module _ (s : BankerState) (p : ℕ) (vars : List ℤ) where
  -- a step that asks nothing of the banker
  pub free : (items : List Item) (shown : Outcome) (vars' : List ℤ) (arm' : plain.Arm)
      → IsFreeStep vars (Some (step_items vars items)) shown vars' arm' → IsArmStep s p vars (Doing items) shown vars' arm' s
  free items outcome.Silent vars' arm' h = (h, refl)
  free items (outcome.Prints v) vars' arm' h = (h, refl)
  free items (outcome.Takes bundle) vars' arm' h = elim h [ ]
  free items (outcome.Returns bundle) vars' arm' h = (h, refl)
  free items (outcome.Faults kind) vars' arm' h = (h, refl)
  free items outcome.Ends vars' arm' h = (h, refl)
  free items outcome.Waits vars' arm' h = elim h [ ]

  -- the same arm, seen otherwise
  pub same_step : (arm before : plain.Arm) → arm ≡ before → (shown : Outcome) (vars' : List ℤ) (arm' : plain.Arm) (s' : BankerState)
      → IsArmStep s p vars before shown vars' arm' s' → IsArmStep s p vars arm shown vars' arm' s'
  same_step arm before same shown vars' arm' s' h = subst (λ a. IsArmStep s p vars a shown vars' arm' s') (sym same) h

  module _ {A : Type 0} (arm : plain.Arm) (items : List Item) (same : arm ≡ Doing items) where
    pub free_step : (stepped : Stepped A) (vars' : List ℤ) → StepsItems vars items stepped vars'
        → IsArmStep s p vars arm stepped.outcome vars' (arm_view stepped.arm) s
    free_step stepped vars' h =
        same_step arm (Doing items) same stepped.outcome vars' (arm_view stepped.arm) s (free items stepped.outcome vars' (arm_view stepped.arm) h)

    pub free_ok : (r : Result (Stepped A) (Arm A)) → IfOk r (λ st. StepsItems vars items st vars)
        → IfOk r (λ st. IsArmStep s p vars arm st.outcome vars (arm_view st.arm) s)
    free_ok (Ok stepped) h = free_step stepped vars h
    free_ok (Err back) h = tt

    pub handed_back : (r : Result (Stepped A) (Arm A)) → IfErr r (λ arm'. arm_view arm' ≡ Doing items)
        → IfErr r (λ arm'. IsUnchanged s vars arm vars (arm_view arm') s)
    handed_back (Ok stepped) h = tt
    handed_back (Err back) h = (refl, h ∙ sym same, refl)

    pub left_ok : (r : Result (Stepped A) (Arm A)) (arm' : plain.Arm) → step_items vars items ≡ Goes vars arm' Silent
        → IfOk r (λ st. LeavesArm st arm') → IfOk r (λ st. StepsItems vars items st vars)
    left_ok (Ok stepped) arm' made h = silently vars items stepped.outcome (arm_view stepped.arm) arm' h.0 h.1 made
    left_ok (Err back) arm' made h = tt

    pub asked_ok : (r : Result (Stepped A) (Arm A)) (s' : BankerState)
        → IfOk r (λ st. (vs : List ℤ) → IsArmStep s p vs (Doing items) st.outcome vs (arm_view st.arm) s')
        → IfOk r (λ st. IsArmStep s p vars arm st.outcome vars (arm_view st.arm) s')
    asked_ok (Ok stepped) s' h = same_step arm (Doing items) same stepped.outcome vars (arm_view stepped.arm) s' (h vars)
    asked_ok (Err back) s' h = tt

    pub asked_err : (r : Result (Stepped A) (Arm A)) (s' : BankerState)
        → IfErr r (λ arm'. (vs : List ℤ) → IsUnchanged s vs (Doing items) vs (arm_view arm') s')
        → IfErr r (λ arm'. IsUnchanged s vars arm vars (arm_view arm') s')
    asked_err (Ok stepped) s' h = tt
    asked_err (Err back) s' h = ((h vars).0, (h vars).1 ∙ sym same, (h vars).2)

  -- the same for all that a step leaves
  module _ {A : Type 0} (arm before : plain.Arm) (same : arm ≡ before) (vars' : List ℤ) (s' : BankerState) where
    pub same_ok : (r : Result (Stepped A) (Arm A)) → IfOk r (λ st. IsArmStep s p vars before st.outcome vars' (arm_view st.arm) s')
        → IfOk r (λ st. IsArmStep s p vars arm st.outcome vars' (arm_view st.arm) s')
    same_ok (Ok stepped) h = same_step arm before same stepped.outcome vars' (arm_view stepped.arm) s' h
    same_ok (Err back) h = tt

    pub same_err : (r : Result (Stepped A) (Arm A)) → IfErr r (λ arm'. IsUnchanged s vars before vars' (arm_view arm') s')
        → IfErr r (λ arm'. IsUnchanged s vars arm vars' (arm_view arm') s')
    same_err (Ok stepped) h = tt
    same_err (Err back) h = (h.0, h.1 ∙ sym same, h.2)

-- what an arm asks for does not depend on how it is seen
pub asks_same : (n : ℕ) (vars : List ℤ) (arm before : plain.Arm) → arm ≡ before → AsksBelow n vars arm → AsksBelow n vars before
asks_same n vars arm before same h = subst (AsksBelow n vars) same h

-- an arm at a hold asks for what it takes
pub hold_asks : (n : ℕ) (vars : List ℤ) (arm : plain.Arm) (line : ℕ) (bundle : Bundle) (body : Block) (rest : List Item)
    → arm ≡ Doing (Item.Hold line bundle body ∷ rest) → AsksBelow n vars arm → AreBelow n bundle
hold_asks n vars arm line bundle body rest same h =
    h vars (Doing (items_of body ++ GiveBack line bundle ∷ rest)) bundle (ap (step_arm vars) same)

-- what is not granted is not allowed
pub not_allowed : (s : BankerState) (p : ℕ) (bundle : Bundle) (answer : Answer) → Answers s p bundle answer
    → answer ≢ Granted → ¬ IsAllowed s p bundle
not_allowed s p bundle answer h other allowed = other (h.granted.1 allowed)
