-- What a step leaves, if its test has come to a number.
use Rattle.std.proofs.Common.{◌≡◌, ◌++◌, ◌∷◌, ℕ, ℤ, Bool, List, Result, Ok, Err, Some, cond, ap, sym, ◌∙◌}
use Rattle.std.specs.Prelude.{IfOk, IfErr}
use Rattle.pb_base.specs.Arithmetic.{is_zero}
use Rattle.pb_base.specs.Steppers.{Silent}
use Rattle.pb_names.specs.Program.{Expr, Number, Block}
use Rattle.pb_names.specs.Source.{Item, items_of, step_items, Goes}
use Rattle.pb_names.specs.Source as plain
use Rattle.pb_rewrite.specs.Steps.{LeavesArm, StepsItems, IsFreeStep}
use Rattle.pb_rewrite.specs.View.{arm_view}
use Rattle.pb_rewrite.specs.declared.arm.Arm.{Arm}
use Rattle.pb_rewrite.specs.declared.stepping.Stepped.{Stepped}
use Rattle.pb_rewrite.specs.declared.stepping.Outcome.{Outcome}
use Rattle.pb_rewrite.specs.declared.stepping.Outcome.TheVariants as outcome
use Rattle.pb_rewrite.proofs.Items.{choice_is, loop_is}

-- a step of which nothing is seen
pub silently : (vars : List ℤ) (items : List Item) (shown : Outcome) (arm arm' : plain.Arm) → shown ≡ outcome.Silent
    → arm ≡ arm' → step_items vars items ≡ Goes vars arm' Silent → IsFreeStep vars (Some (step_items vars items)) shown vars arm
silently vars items outcome.Silent arm arm' h same made = ap Some (made ∙ ap (λ a. Goes vars a Silent) (sym same))
silently vars items (outcome.Prints v) arm arm' h same made = absurd (cc)
silently vars items (outcome.Takes bundle) arm arm' h same made = absurd (cc)
silently vars items (outcome.Returns bundle) arm arm' h same made = absurd (cc)
silently vars items (outcome.Faults kind) arm arm' h same made = absurd (cc)
silently vars items outcome.Ends arm arm' h same made = absurd (cc)
silently vars items outcome.Waits arm arm' h same made = absurd (cc)

-- an arm that is handed back
pub kept_err : {A : Type 0} (r : Result (Stepped A) (Arm A)) (before before' : plain.Arm)
    → IfErr r (λ arm. arm_view arm ≡ before) → before ≡ before' → IfErr r (λ arm. arm_view arm ≡ before')
kept_err (Ok s) before before' h same = tt
kept_err (Err arm) before before' h same = h ∙ same

module _ {A : Type 0} (vars : List ℤ) (line : ℕ) (rest : List Item) where
  pub choice_chosen : (a b : Block) (e : Expr) (v : ℤ) (fails : Bool) → fails ≡ is_zero v → e ≡ Number v
      → (r : Result (Stepped A) (Arm A)) → IfOk r (λ s. LeavesArm s (plain.Doing (items_of (cond fails b a) ++ rest)))
      → IfOk r (λ s. StepsItems vars (Item.If line e a b ∷ rest) s vars)
  choice_chosen a b e v fails z is (Ok s) left =
      silently vars (Item.If line e a b ∷ rest) s.outcome (arm_view s.arm) _ left.0 (left.1 ∙ ap (λ f. plain.Doing (items_of (cond f b a) ++ rest)) z)
      (choice_is vars line rest a b e v is)
  choice_chosen a b e v fails z is (Err arm) left = tt

  pub loop_decided : (test : Expr) (body : Block) (e : Expr) (v : ℤ) (fails : Bool) → fails ≡ is_zero v → e ≡ Number v
      → (r : Result (Stepped A) (Arm A))
      → IfOk r (λ s. LeavesArm s (plain.Doing (cond fails rest (items_of body ++ Item.While line test test body ∷ rest))))
      → IfOk r (λ s. StepsItems vars (Item.While line test e body ∷ rest) s vars)
  loop_decided test body e v fails z is (Ok s) left =
      silently vars (Item.While line test e body ∷ rest) s.outcome (arm_view s.arm) _ left.0
      (left.1 ∙ ap (λ f. plain.Doing (cond f rest (items_of body ++ Item.While line test test body ∷ rest))) z)
      (loop_is vars line rest test body e v is)
  loop_decided test body e v fails z is (Err arm) left = tt
