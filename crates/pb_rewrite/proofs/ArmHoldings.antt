-- What an arm holds, and how a step changes it.
use Rattle.std.proofs.Common.{◌≡◌, inl, inr, ℕ, ◌+◌, ℤ, Bool, true, false, cond, nat_eq, List, [], ◌∷◌, ◌++◌}
use Rattle.std.proofs.Common.{Option, Some, None, ap, subst, refl, arith}
use Rattle.pb_base.specs.Arithmetic.{is_zero}
use Rattle.pb_base.specs.Bundle.{amount_in}
use Rattle.pb_base.specs.Steppers.{Effect, Silent, Prints, Takes, Returns, Faults, Finishes}
use Rattle.pb_names.specs.Claims.{held_in_list, held, held_among}
use Rattle.pb_names.specs.Program.{Expr, Block}
use Rattle.pb_names.specs.Source.{ExprStep, Is, Becomes, Fails, step_expr, Item, GiveBack, items_of, Arm}
use Rattle.pb_names.specs.Source.{Doing, Waiting, Ended, Running, Nothing, Beside, all_ended}
use Rattle.pb_names.specs.Source.{ArmStep, Goes, Breaks, Ends, evaluate, step_items, step_arm, find, find_among, put}
use Rattle.pb_names.specs.Source.{put_among}
use Rattle.pb_names.proofs.Holdings.{block_held, begin_held, ended_held}
use Rattle.pb_rewrite.specs.Sound.{Owns, IsOwned, IsSingle, AreSingle}
use Rattle.pb_rewrite.specs.Steps.{AreBelow}
use Rattle.pb_rewrite.proofs.SwappedArms.{first_cases, none_put, none_put_among, none_some}

-- ---- what a step lends or takes back

abbrev pub LendsBy : ℕ → ℕ → ℕ → ℕ → Effect → Type 0
LendsBy n r before after Silent = after ≡ before
LendsBy n r before after (Prints v) = after ≡ before
LendsBy n r before after (Takes bundle) = AreBelow n bundle × (after ≡ before + amount_in bundle r)
LendsBy n r before after (Returns bundle) = AreBelow n bundle × (after + amount_in bundle r ≡ before)
LendsBy n r before after (Faults kind) = ⊥
LendsBy n r before after Finishes = ⊥

abbrev Lends : ℕ → ℕ → ℕ → ArmStep → Type 0
Lends n r before (Goes vars arm effect) = LendsBy n r before (held r arm) effect
Lends n r before (Breaks kind) = Unit {0}
Lends n r before Ends = before ≡ 0

evaluate_lends : (n r before : ℕ) (res : ExprStep) (keep : Expr → ArmStep) (done : ℤ → ArmStep) → ((e : Expr) → Lends
    n r before (keep e)) → ((v : ℤ) → Lends n r before (done v)) → Lends n r before (evaluate res keep done)
evaluate_lends n r before (Is v) keep done k d = d v
evaluate_lends n r before (Becomes e) keep done k d = k e
evaluate_lends n r before (Fails kind) keep done k d = tt

choice_lends : (r : ℕ) (z : Bool) (a b : Block) (rest : List Item) → held_in_list r (items_of (cond z b a) ++ rest) ≡ held_in_list r rest
choice_lends r true a b rest = block_held r b rest
choice_lends r false a b rest = block_held r a rest

loop_lends : (r k : ℕ) (z : Bool) (rest more : List Item) → held_in_list r rest ≡ k → held_in_list r more ≡ k → held_in_list r (cond z rest more) ≡ k
loop_lends r k true rest more one two = one
loop_lends r k false rest more one two = two

items_lend : (n r lo hi : ℕ) (vars : List ℤ) (items : List Item) → Owns n lo hi items → Lends n r (held_in_list r items) (step_items vars items)
items_lend n r lo hi vars [] o = refl
items_lend n r lo hi vars (Item.Assign line x e ∷ rest) o = evaluate_lends n r _ (step_expr vars e) _ _ (λ e'. refl) (λ v. omega arith)
items_lend n r lo hi vars (Item.Print line e ∷ rest) o = evaluate_lends n r _ (step_expr vars e) _ _ (λ e'. refl) (λ v. omega arith)
items_lend n r lo hi vars (Item.If line e a b ∷ rest) o =
    evaluate_lends n r _ (step_expr vars e) _ _ (λ e'. refl) (λ v. let same = choice_lends r (is_zero v) a b rest in omega arith)
items_lend n r lo hi vars (Item.While line test e body ∷ rest) o =
    evaluate_lends n r _ (step_expr vars e) _ _ (λ e'. refl)
    (λ v. loop_lends r _ (is_zero v) rest (items_of body ++ Item.While line test test body ∷ rest) (omega arith) (block_held
    r body (Item.While line test test body ∷ rest)))
items_lend n r lo hi vars (Item.Hold line bundle body ∷ rest) o =
    (o.0.0, let same = block_held r body (GiveBack line bundle ∷ rest) in omega arith)
items_lend n r lo hi vars (GiveBack line bundle ∷ rest) o = (o.0, omega arith)
items_lend n r lo hi vars (Item.Parbegin line first arms ∷ rest) o = let none = begin_held r arms in omega arith

abbrev OptionLends : ℕ → ℕ → ℕ → Option ArmStep → Type 0
OptionLends n r before None = Unit {0}
OptionLends n r before (Some step) = Lends n r before step

join_lends : (n r before : ℕ) (vars : List ℤ) (arms : Running) (rest : List Item) (b : Bool) → all_ended arms ≡ b
    → before ≡ held_among r arms + held_in_list r rest → OptionLends n r before (cond b (Some (Goes vars (Doing rest) Silent)) None)
join_lends n r before vars arms rest true h same = let none = ended_held r arms h in omega arith
join_lends n r before vars arms rest false h same = tt

arm_lends : (n r lo hi : ℕ) (vars : List ℤ) (arm : Arm) → IsOwned n lo hi arm → OptionLends n r (held r arm) (step_arm vars arm)
arm_lends n r lo hi vars (Doing items) o = items_lend n r lo hi vars items o
arm_lends n r lo hi vars (Waiting line first arms rest) o = join_lends n r _ vars arms rest (all_ended arms) refl refl
arm_lends n r lo hi vars Ended o = tt

pub goes_lends : (n r lo hi : ℕ) (vars vars' : List ℤ) (arm arm' : Arm) (effect : Effect) → IsOwned n lo hi arm
    → step_arm vars arm ≡ Some (Goes vars' arm' effect) → LendsBy n r (held r arm) (held r arm') effect
goes_lends n r lo hi vars vars' arm arm' effect o e = subst (OptionLends n r (held r arm)) e (arm_lends n r lo hi vars arm o)

pub ends_hold : (n r lo hi : ℕ) (vars : List ℤ) (arm : Arm) → IsOwned n lo hi arm → step_arm vars arm ≡ Some Ends → held r arm ≡ 0
ends_hold n r lo hi vars arm o e = subst (OptionLends n r (held r arm)) e (arm_lends n r lo hi vars arm o)

-- ---- what a run holds, of which one arm is replaced

replaced_at : (r : ℕ) (b : Bool) (x y t z : Arm) (inner : Option Arm) → cond b (Some t) inner ≡ Some x
    → (inner ≡ Some x → held r z + held r x ≡ held r t + held r y) → held r (cond b y z) + held r x ≡ held r t + held r y
replaced_at r true x y t z inner h rest =
    let same : t ≡ x = cc in
    let holds = ap (held r) same in
    omega arith
replaced_at r false x y t z inner h rest = rest h

mutual
  pub held_put : (r a n : ℕ) (x y arm : Arm) → IsSingle a arm → find a n arm ≡ Some x
      → held r (put a y n arm) + held r x ≡ held r arm + held r y
  held_put r a n x y (Doing items) single h =
      replaced_at r (nat_eq a n) x y (Doing items) (Doing items) None h (λ e. absurd (none_some None x e refl))
  held_put r a n x y (Waiting line first arms rest) single h =
      replaced_at r (nat_eq a n) x y (Waiting line first arms rest) (Waiting line first (put_among a y first arms) rest) (find_among a first arms) h
      (λ e. let inner = held_put_among r a first x y arms single e in omega arith)
  held_put r a n x y Ended single h =
      replaced_at r (nat_eq a n) x y Ended Ended None h (λ e. absurd (none_some None x e refl))

  held_put_among : (r a n : ℕ) (x y : Arm) (arms : Running) → AreSingle a n arms → find_among a n arms ≡ Some x
      → held_among r (put_among a y n arms) + held r x ≡ held_among r arms + held r y
  held_put_among r a n x y Nothing single h = absurd (none_some None x h refl)
  held_put_among r a n x y (Beside arm arms) single h =
      elim (first_cases (find a n arm) (find_among a (n + 1) arms) x h) [
        | inl here ↦
            (let one = held_put r a n x y arm single.0 here in
            let rest : put_among a y (n + 1) arms ≡ arms = elim single.1 [
              | inl none ↦ absurd (none_some (find a n arm) x here none)
              | inr none ↦ none_put_among a (n + 1) y arms none
            ] in
            let same = ap (held_among r) rest in
            omega arith)
        | inr later ↦
            (let rest = held_put_among r a (n + 1) x y arms single.2 later.1 in
            let same = ap (held r) (none_put a n y arm later.0) in
            omega arith)
      ]
