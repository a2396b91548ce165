-- A step of an arm keeps what its items and its running arms meet, and holds what it has taken.
use Rattle.std.proofs.Common.{◌≡◌, ◌≤◌, ℕ, ◌+◌, ℤ, Bool, true, false, cond, List, [], ◌∷◌, ◌++◌}
use Rattle.std.proofs.Common.{Some, None, refl, subst, arith}
use Rattle.pb_base.specs.declared.operators.FaultKind.{FaultKind}
use Rattle.pb_base.specs.Arithmetic.{is_zero}
use Rattle.pb_base.specs.Steppers.{Bundle, Effect, Silent, Faults}
use Rattle.pb_names.proofs.Holdings.{begin_held, block_held, ended_held}
use Rattle.pb_names.specs.Claims.{held}
use Rattle.pb_names.specs.Program.{Expr, Block}
use Rattle.pb_names.specs.Source.{Item, GiveBack, items_of, Arm, Doing, Waiting, Ended, all_ended}
use Rattle.pb_names.specs.Source.{ExprStep, Is, Becomes, Fails, step_expr, evaluate, ArmStep, Goes, Breaks, Ends}
use Rattle.pb_names.specs.Source.{step_items, step_arm}
use Rattle.pb_plan.proofs.OrderedItems.{FitItems, FitsArm, arms_le, fit_block, fits_begun}
use Rattle.pb_verifier.proofs.Threads.{given, taken}

-- what an arm holds after an effect that is no fault
pub record Balances (old new : Arm) (effect : Effect) : Type 0 where
  pub each : (r : ℕ) → held r new + given r effect ≡ held r old + taken r effect
  pub no_fault : (kind : FaultKind) → effect ≡ Faults kind → ⊥

module _ (Meets : Bundle → Bundle → Type 0) (lo hi : ℕ) (outer : Bundle) where
  abbrev pub KeepsOn : Arm → ArmStep → Type 0
  KeepsOn old (Goes vars new effect) = FitsArm Meets lo hi outer new × Balances old new effect
  KeepsOn old (Breaks kind) = Unit {0}
  KeepsOn old Ends = (lo ≤ hi) × ((r : ℕ) → held r old ≡ 0)

  evaluates : (old : Arm) (res : ExprStep) (keep : Expr → ArmStep) (done : ℤ → ArmStep)
      → ((e : Expr) → KeepsOn old (keep e)) → ((v : ℤ) → KeepsOn old (done v))
      → KeepsOn old (evaluate res keep done)
  evaluates old (Is v) keep done k d = d v
  evaluates old (Becomes e) keep done k d = k e
  evaluates old (Fails kind) keep done k d = tt

  silent : (old new : Arm) → ((r : ℕ) → held r new ≡ held r old) → Balances old new Silent
  silent old new same = record { each = λ r. let e = same r in omega (arith, e); no_fault = λ kind w. cc }

  turns : (z : Bool) (line : ℕ) (e : Expr) (a b : Block) (rest : List Item) → lo ≤ hi
      → FitItems Meets lo hi outer (Item.If line e a b ∷ rest)
      → KeepsOn (Doing (Item.If line e a b ∷ rest)) (Goes [] (Doing (items_of (cond z b a) ++ rest)) Silent)
  turns true line e a b rest le h =
      ((le, fit_block Meets lo hi outer b rest h.0.1 h.1), silent _ _ (λ r. let q = block_held r b rest in omega (arith, q)))
  turns false line e a b rest le h =
      ((le, fit_block Meets lo hi outer a rest h.0.0 h.1), silent _ _ (λ r. let q = block_held r a rest in omega (arith, q)))

  loops : (z : Bool) (line : ℕ) (test e : Expr) (body : Block) (rest : List Item) → lo ≤ hi
      → FitItems Meets lo hi outer (Item.While line test e body ∷ rest)
      → KeepsOn (Doing (Item.While line test e body ∷ rest))
      (Goes [] (Doing (cond z rest (items_of body ++ Item.While line test test body ∷ rest))) Silent)
  loops true line test e body rest le h = ((le, h.1), silent _ _ (λ r. omega arith))
  loops false line test e body rest le h = (
    (le, fit_block Meets lo hi outer body (Item.While line test test body ∷ rest) h.0 (h.0, h.1)),
    silent _ _ (λ r. let q = block_held r body (Item.While line test test body ∷ rest) in omega (arith, q)),
  )

  items_keep_on : (vars : List ℤ) (items : List Item) → lo ≤ hi → FitItems Meets lo hi outer items
      → KeepsOn (Doing items) (step_items vars items)
  items_keep_on vars [] le h = (le, λ r. refl)
  items_keep_on vars (Item.Assign line x e ∷ rest) le h =
      evaluates _ (step_expr vars e) _ _ (λ e'. ((le, h), silent _ _ (λ r. refl)))
      (λ v. ((le, h.1), silent _ _ (λ r. omega arith)))
  items_keep_on vars (Item.Print line e ∷ rest) le h =
      evaluates _ (step_expr vars e) _ _ (λ e'. ((le, h), silent _ _ (λ r. refl)))
      (λ v. ((le, h.1), record { each = λ r. omega arith; no_fault = λ kind w. cc }))
  items_keep_on vars (Item.If line e a b ∷ rest) le h =
      evaluates _ (step_expr vars e) _ _ (λ e'. ((le, h), silent _ _ (λ r. refl)))
      (λ v. turns (is_zero v) line e a b rest le h)
  items_keep_on vars (Item.While line test e body ∷ rest) le h =
      evaluates _ (step_expr vars e) _ _ (λ e'. ((le, h), silent _ _ (λ r. refl)))
      (λ v. loops (is_zero v) line test e body rest le h)
  items_keep_on vars (Item.Hold line bundle body ∷ rest) le h = (
    (le, fit_block Meets lo hi outer body (GiveBack line bundle ∷ rest) h.0.1 (tt, h.1)),
    record {
      each = λ r. let q = block_held r body (GiveBack line bundle ∷ rest) in omega (arith, q);
      no_fault = λ kind w. cc;
    },
  )
  items_keep_on vars (GiveBack line bundle ∷ rest) le h =
      ((le, h.1), record { each = λ r. omega arith; no_fault = λ kind w. cc })
  items_keep_on vars (Item.Parbegin line first arms ∷ rest) le h = (
    fits_begun Meets lo hi line first outer arms rest h.0 h.1,
    silent _ _ (λ r. let q = begin_held r arms in omega (arith, q)),
  )

  -- a step of an arm
  pub keeps_on : (vars : List ℤ) (old : Arm) (st : ArmStep) → FitsArm Meets lo hi outer old
      → step_arm vars old ≡ Some st → KeepsOn old st
  keeps_on vars (Doing items) st h e =
      let same : step_items vars items ≡ st = cc in
      subst (KeepsOn (Doing items)) same (items_keep_on vars items h.0 h.1)
  keeps_on vars (Waiting line first arms rest) st h e = go (all_ended arms) refl e
    where
      go : (b : Bool) → all_ended arms ≡ b → cond b (Some (Goes vars (Doing rest) Silent)) None ≡ Some st
          → KeepsOn (Waiting line first arms rest) st
      go true ended e' =
          let same : Goes vars (Doing rest) Silent ≡ st = cc in
          let le = arms_le Meets _ hi _ arms h.2 in
          let l = h.0 in
          subst (KeepsOn (Waiting line first arms rest)) same (
            (omega (arith, le, l), h.1),
            silent _ _ (λ r. let n = ended_held r arms ended in omega (arith, n)),
          )
      go false ended e' = cc
  keeps_on vars Ended st h e = cc
