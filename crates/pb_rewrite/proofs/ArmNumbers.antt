-- Arms have numbers of their own, and each step keeps it so.
use Rattle.std.proofs.Common.{◌≡◌, ◌⊎◌, inl, inr, ℕ, suc, ◌+◌, ◌<◌, ◌≤◌, ℤ, Bool, true, false, cond, nat_eq, List, []}
use Rattle.std.proofs.Common.{◌∷◌, ◌++◌, length, Option, Some, None, ap, subst, refl, sym, ◌∙◌, arith, length-append}
use Rattle.std.proofs.Common.{append-nil}
use Rattle.std.proofs.lemmas.Bool.Decides.{eqb_tells}
use Rattle.pb_base.specs.Arithmetic.{is_zero}
use Rattle.pb_base.specs.Steppers.{Effect}
use Rattle.pb_names.specs.Program.{Expr, Block, Skip, Then, Stmt, Assign, Print, If, While, Hold, Parbegin, Arms}
use Rattle.pb_names.specs.Program.{NoArm, AndArm, count, arms_list, arms_in, arms_in_stmt, arms_in_arms, IsNumbered}
use Rattle.pb_names.specs.Program.{IsNumberedStmt, AreNumbered}
use Rattle.pb_names.specs.Source.{ExprStep, Is, Becomes, Fails, step_expr, Item, GiveBack, item_of, items_of, Arm, running_arms}
use Rattle.pb_names.specs.Source.{Doing, Waiting, Ended, Running, Nothing, Beside, begin, ArmStep, Goes, Breaks, Ends}
use Rattle.pb_names.specs.Source.{evaluate, step_items, step_arm, all_ended, find, find_among, first_some, put}
use Rattle.pb_names.specs.Source.{put_among}
use Rattle.pb_rewrite.specs.Sound.{StmtNames, BlockNames, ArmsName, OwnsBlock, OwnsItem, Owns, IsOwned}
use Rattle.pb_rewrite.specs.Sound.{AreOwned, IsSingle, AreSingle}
use Rattle.pb_rewrite.proofs.SwappedArms.{first_cases, none_put, none_put_among, none_some}
use Rattle.pb_names.proofs.NumberedLists.{length-arms_list}
use Rattle.pb_names.proofs.ArmNumbers.{running_begin, Mine, AllMine}

-- ---- the items of a block own what the block owns

owns_item : (n lo hi m : ℕ) (s : Stmt) → StmtNames n s → lo ≤ m → IsNumberedStmt m s → m + length (arms_in_stmt s) ≤ hi → OwnsItem n lo hi (item_of s)
owns_item n lo hi m (Assign line x e) k l h u = tt
owns_item n lo hi m (Print line e) k l h u = tt
owns_item n lo hi m (If line e a b) k l h u =
    let len = length-append (arms_in a) (arms_in b) in
    ((k.0, (m, l, h.0, omega (arith, len))), (k.1, (m + length (arms_in a), omega arith, h.1, omega (arith, len))))
owns_item n lo hi m (While line e body) k l h u = (k, (m, l, h, u))
owns_item n lo hi m (Hold line bundle body) k l h u = (k.0, (k.1, (m, l, h, u)))
owns_item n lo hi m (Parbegin line first arms) k l h u =
    let e : m ≡ first = sym h.0 in (
      k,
      omega arith,
      subst (λ j. AreNumbered (j + count arms) arms) e h.1,
      omega (
        arith,
        length-append (arms_list
            arms) (arms_in_arms arms),
        length-arms_list arms,
      ),
    )

owns_items : (n lo hi m : ℕ) (block : Block) (rest : List Item) → BlockNames n block → lo ≤ m → IsNumbered m block → m + length (arms_in block) ≤ hi
    → Owns n lo hi rest → Owns n lo hi (items_of block ++ rest)
owns_items n lo hi m Skip rest k l h u o = o
owns_items n lo hi m (Then s block) rest k l h u o =
    let len = length-append (arms_in_stmt s) (arms_in block) in (
      owns_item n lo hi m s k.0 l h.0 (omega (arith, len)),
      owns_items n lo hi (m + length (arms_in_stmt s)) block rest k.1 (omega arith) h.1 (omega (arith, len)) o,
    )

pub owns_block : (n lo hi : ℕ) (block : Block) (rest : List Item) → OwnsBlock n lo hi block → Owns n lo hi rest → Owns n lo hi (items_of block ++ rest)
owns_block n lo hi block rest b o = owns_items n lo hi b.1.0 block rest b.0 b.1.1 b.1.2 b.1.3 o

owns_le : (n lo hi : ℕ) (items : List Item) → Owns n lo hi items → lo ≤ hi
owns_le n lo hi [] o = o
owns_le n lo hi (item ∷ items) o = owns_le n lo hi items o.1

-- ---- arms that begin to run

begins : (n lo hi : ℕ) (arms : Arms) → ArmsName n arms → AreNumbered lo arms → lo + length (arms_in_arms arms) ≤ hi → AreOwned n lo hi (begin arms)
begins n lo hi NoArm k h u = omega (arith, u)
begins n lo hi (AndArm arm arms) k h u =
    let len = length-append (arms_in arm) (arms_in_arms arms) in
    let mid = lo + length (arms_in arm) in (
      mid,
      subst (Owns n lo mid) (append-nil (items_of arm)) (owns_items n lo mid lo arm [] k.0 (omega arith) h.0 (omega arith) (omega arith)),
      begins n mid hi arms k.1 h.1 (omega (arith, len)),
    )

-- ---- one step of an arm

abbrev Keeps : ℕ → ℕ → ℕ → ArmStep → Type 0
Keeps n lo hi (Goes vars arm effect) = IsOwned n lo hi arm
Keeps n lo hi (Breaks kind) = Unit {0}
Keeps n lo hi Ends = Unit {0}

evaluate_keeps : (n lo hi : ℕ) (r : ExprStep) (keep : Expr → ArmStep) (done : ℤ → ArmStep) → ((e : Expr) → Keeps n lo
    hi (keep e)) → ((v : ℤ) → Keeps n lo hi (done v)) → Keeps n lo hi (evaluate r keep done)
evaluate_keeps n lo hi (Is v) keep done k d = d v
evaluate_keeps n lo hi (Becomes e) keep done k d = k e
evaluate_keeps n lo hi (Fails kind) keep done k d = tt

choice_owns : (n lo hi : ℕ) (z : Bool) (a b : Block) (rest : List Item) → OwnsBlock n lo hi a → OwnsBlock n lo hi b →
    Owns n lo hi rest → Owns n lo hi (items_of (cond z b a) ++ rest)
choice_owns n lo hi true a b rest oa ob o = owns_block n lo hi b rest ob o
choice_owns n lo hi false a b rest oa ob o = owns_block n lo hi a rest oa o

loop_owns : (n lo hi : ℕ) (z : Bool) (rest more : List Item) → Owns n lo hi rest → Owns n lo hi more → Owns n lo hi (cond z rest more)
loop_owns n lo hi true rest more r m = r
loop_owns n lo hi false rest more r m = m

step_keeps : (n lo hi : ℕ) (vars : List ℤ) (items : List Item) → Owns n lo hi items → Keeps n lo hi (step_items vars items)
step_keeps n lo hi vars [] o = tt
step_keeps n lo hi vars (Item.Assign line x e ∷ rest) o = evaluate_keeps n lo hi (step_expr vars e) _ _ (λ e'. o) (λ v. o.1)
step_keeps n lo hi vars (Item.Print line e ∷ rest) o = evaluate_keeps n lo hi (step_expr vars e) _ _ (λ e'. o) (λ v. o.1)
step_keeps n lo hi vars (Item.If line e a b ∷ rest) o =
    evaluate_keeps n lo hi (step_expr vars e) _ _ (λ e'. o) (λ v. choice_owns n lo hi (is_zero v) a b rest o.0.0 o.0.1 o.1)
step_keeps n lo hi vars (Item.While line test e body ∷ rest) o =
    evaluate_keeps n lo hi (step_expr vars e) _ _ (λ e'. o) (λ v. loop_owns n lo hi (is_zero v) rest _ o.1 (owns_block
    n lo hi body (Item.While line test test body ∷ rest) o.0 o))
step_keeps n lo hi vars (Item.Hold line bundle body ∷ rest) o = owns_block n lo hi body (GiveBack line bundle ∷ rest) o.0.1 (o.0.0, o.1)
step_keeps n lo hi vars (GiveBack line bundle ∷ rest) o = o.1
step_keeps n lo hi vars (Item.Parbegin line first arms ∷ rest) o =
    let p = o.0 in (
      p.1,
      subst (λ k. AreOwned n (first + k) hi (begin arms)) (sym (running_begin arms)) (begins n (first + count arms) hi arms p.0 p.2 p.3),
      o.1,
    )

abbrev OptionKeeps : ℕ → ℕ → ℕ → Option ArmStep → Type 0
OptionKeeps n lo hi None = Unit {0}
OptionKeeps n lo hi (Some step) = Keeps n lo hi step

join_keeps : (n lo hi : ℕ) (b : Bool) (step : ArmStep) → Keeps n lo hi step → OptionKeeps n lo hi (cond b (Some step) None)
join_keeps n lo hi true step h = h
join_keeps n lo hi false step h = tt

arm_keeps : (n lo hi : ℕ) (vars : List ℤ) (arm : Arm) → IsOwned n lo hi arm → OptionKeeps n lo hi (step_arm vars arm)
arm_keeps n lo hi vars (Doing items) o = step_keeps n lo hi vars items o
arm_keeps n lo hi vars (Waiting line first arms rest) o = join_keeps n lo hi (all_ended arms) _ o.2
arm_keeps n lo hi vars Ended o = tt

-- what goes on keeps all numbers within its own range, whatever that is
pub keeps_owned : (n lo hi : ℕ) (vars vars' : List ℤ) (arm arm' : Arm) (effect : Effect) → IsOwned n lo hi arm
    → step_arm vars arm ≡ Some (Goes vars' arm' effect) → IsOwned n lo hi arm'
keeps_owned n lo hi vars vars' arm arm' effect o e = subst (OptionKeeps n lo hi) e (arm_keeps n lo hi vars arm o)

-- ---- ranges

mutual
  pub owned_le : (n lo hi : ℕ) (arm : Arm) → IsOwned n lo hi arm → lo ≤ hi
  owned_le n lo hi (Doing items) o = owns_le n lo hi items o
  owned_le n lo hi (Waiting line first arms rest) o =
      let inner = are_owned_le n (first + running_arms arms) hi arms o.1 in
      let low = o.0 in
      omega arith
  owned_le n lo hi Ended o = o

  pub are_owned_le : (n lo hi : ℕ) (arms : Running) → AreOwned n lo hi arms → lo ≤ hi
  are_owned_le n lo hi Nothing o = o
  are_owned_le n lo hi (Beside arm arms) o =
      let a = owned_le n lo o.0 arm o.1 in
      let b = are_owned_le n o.0 hi arms o.2 in
      omega (arith, a, b)

here_or : (a m : ℕ) (x t : Arm) (inner : Option Arm) → cond (nat_eq a m) (Some t) inner ≡ Some x → (a ≡ m) ⊎ (inner ≡ Some x)
here_or a m x t inner h =
    elim (eqb_tells a m) [ inl e ↦ inl e.1 | inr e ↦ inr (ap (λ b. cond b (Some t) inner) (sym e.0) ∙ h) ]

taken_at : (a m : ℕ) (x t : Arm) (inner : Option Arm) → cond (nat_eq a m) (Some t) inner ≡ Some x → (t ≡ x) ⊎ (inner ≡ Some x)
taken_at a m x t inner h =
    elim (eqb_tells a m) [
      | inl e ↦ inl (the_same t x (ap (λ b. cond b (Some t) inner) (sym e.0) ∙ h))
      | inr e ↦ inr (ap (λ b. cond b (Some t) inner) (sym e.0) ∙ h)
    ]
  where
    the_same : (x y : Arm) → Some x ≡ Some y → x ≡ y
    the_same x y h = cc

mutual
  found_mine : (n m lo hi a : ℕ) (arm x : Arm) → IsOwned n lo hi arm → find a m arm ≡ Some x → Mine m lo hi a
  found_mine n m lo hi a (Doing items) x o h =
      elim (here_or a m x (Doing items) None h) [ inl e ↦ inl e | inr e ↦ absurd (none_some None x e refl) ]
  found_mine n m lo hi a (Waiting line first arms rest) x o h =
      elim (here_or a m x (Waiting line first arms rest) (find_among a first arms) h) [
        | inl e ↦ inl e
        | inr e ↦
            (let low = o.0 in
            let le = are_owned_le n (first + running_arms arms) hi arms o.1 in
            inr (within first (running_arms arms) hi lo a (found_all n first (first + running_arms arms) hi a arms x o.1 e) low le))
      ]
    where
      within : (first k hi lo a : ℕ) → AllMine first k (first + k) hi a → lo ≤ first → first + k ≤ hi → (lo ≤ a) × (a < hi)
      within first k hi lo a (inl m) l u = omega arith
      within first k hi lo a (inr m) l u = omega arith
  found_mine n m lo hi a Ended x o h =
      elim (here_or a m x Ended None h) [ inl e ↦ inl e | inr e ↦ absurd (none_some None x e refl) ]

  found_all : (n m lo hi a : ℕ) (arms : Running) (x : Arm) → AreOwned n lo hi arms → find_among a m arms ≡ Some x → AllMine m (running_arms arms) lo hi a
  found_all n m lo hi a Nothing x o h = absurd (none_some None x h refl)
  found_all n m lo hi a (Beside arm arms) x o h =
      let le1 = owned_le n lo o.0 arm o.1 in
      let le2 = are_owned_le n o.0 hi arms o.2 in
      elim (first_cases (find a m arm) (find_among a (m + 1) arms) x h) [
        | inl e ↦ first_mine m (running_arms arms) lo o.0 hi a le2 (found_mine n m lo o.0 a arm x o.1 e)
        | inr e ↦ later_mine m (running_arms arms) lo o.0 hi a le1 (found_all n (m + 1) o.0 hi a arms x o.2 e.1)
      ]
    where
      first_mine : (m k lo mid hi a : ℕ) → mid ≤ hi → Mine m lo mid a → AllMine m (suc k) lo hi a
      first_mine m k lo mid hi a u (inl e) = inl (omega arith)
      first_mine m k lo mid hi a u (inr e) = inr (omega arith)

      later_mine : (m k lo mid hi a : ℕ) → lo ≤ mid → AllMine (m + 1) k mid hi a → AllMine m (suc k) lo hi a
      later_mine m k lo mid hi a l (inl e) = inl (omega arith)
      later_mine m k lo mid hi a l (inr e) = inr (omega arith)

-- ---- no number leads to two arms

not_both : (m k lo mid hi a : ℕ) → m + 1 + k ≤ lo → lo ≤ mid → Mine m lo mid a → AllMine (m + 1) k mid hi a → ⊥
not_both m k lo mid hi a l u (inl e) (inl f) = omega arith
not_both m k lo mid hi a l u (inl e) (inr f) = omega arith
not_both m k lo mid hi a l u (inr e) (inl f) = omega arith
not_both m k lo mid hi a l u (inr e) (inr f) = omega arith

maybe_none : (o : Option Arm) → (o ≡ None) ⊎ ((x : Arm) × (o ≡ Some x))
maybe_none None = inl refl
maybe_none (Some x) = inr (x, refl)

mutual
  pub owned_single : (n lo hi a : ℕ) (arm : Arm) → IsOwned n lo hi arm → IsSingle a arm
  owned_single n lo hi a (Doing items) o = tt
  owned_single n lo hi a (Waiting line first arms rest) o =
      owned_all_single n first (first + running_arms arms) hi a arms (omega arith) o.1
  owned_single n lo hi a Ended o = tt

  owned_all_single : (n m lo hi a : ℕ) (arms : Running) → m + running_arms arms ≤ lo → AreOwned n lo hi arms → AreSingle a m arms
  owned_all_single n m lo hi a Nothing l o = tt
  owned_all_single n m lo hi a (Beside arm arms) l o =
      let le1 = owned_le n lo o.0 arm o.1 in (
        owned_single n lo o.0 a arm o.1,
        elim (maybe_none (find a m arm)) [
          | inl e ↦ inl e
          | inr e ↦ elim (maybe_none (find_among a (m + 1) arms)) [
            | inl f ↦ inr f
            | inr f ↦ absurd (not_both m (running_arms arms) lo o.0 hi a (omega arith) le1
                (found_mine n m lo o.0 a arm e.0 o.1 e.1) (found_all n (m + 1) o.0 hi a arms f.0 o.2 f.1))
          ]
        ],
        owned_all_single n (m + 1) o.0 hi a arms (omega (arith, le1)) o.2,
      )

-- ---- what is found is owned, and what keeps its range may be put there

abbrev Found : ℕ → Arm → Type 0
Found n x = (lo : ℕ) × (hi : ℕ) × IsOwned n lo hi x

mutual
  pub found_owned : (n m lo hi a : ℕ) (arm x : Arm) → IsOwned n lo hi arm → find a m arm ≡ Some x → Found n x
  found_owned n m lo hi a (Doing items) x o h =
      elim (taken_at a m x (Doing items) None h) [ inl e ↦ (lo, hi, subst (IsOwned n lo hi) e o) | inr e ↦ absurd (none_some None x e refl) ]
  found_owned n m lo hi a (Waiting line first arms rest) x o h =
      elim (taken_at a m x (Waiting line first arms rest) (find_among a first arms) h) [
        | inl e ↦ (lo, hi, subst (IsOwned n lo hi) e o)
        | inr e ↦ found_owned_all n first (first + running_arms arms) hi a arms x o.1 e
      ]
  found_owned n m lo hi a Ended x o h =
      elim (taken_at a m x Ended None h) [ inl e ↦ (lo, hi, subst (IsOwned n lo hi) e o) | inr e ↦ absurd (none_some None x e refl) ]

  found_owned_all : (n m lo hi a : ℕ) (arms : Running) (x : Arm) → AreOwned n lo hi arms → find_among a m arms ≡ Some x → Found n x
  found_owned_all n m lo hi a Nothing x o h = absurd (none_some None x h refl)
  found_owned_all n m lo hi a (Beside arm arms) x o h =
      elim (first_cases (find a m arm) (find_among a (m + 1) arms) x h) [
        | inl e ↦ found_owned n m lo o.0 a arm x o.1 e
        | inr e ↦ found_owned_all n (m + 1) o.0 hi a arms x o.2 e.1
      ]

size_put : (a m : ℕ) (y : Arm) (arms : Running) → running_arms (put_among a y m arms) ≡ running_arms arms
size_put a m y Nothing = refl
size_put a m y (Beside arm arms) = ap suc (size_put a (m + 1) y arms)

abbrev KeepsRange : ℕ → Arm → Arm → Type 0
KeepsRange n x y = (lo hi : ℕ) → IsOwned n lo hi x → IsOwned n lo hi y

owned_at : (n lo hi : ℕ) (b : Bool) (x y t z : Arm) (inner : Option Arm) → cond b (Some t) inner ≡ Some x → IsOwned n lo hi t
    → KeepsRange n x y → (inner ≡ Some x → IsOwned n lo hi z) → IsOwned n lo hi (cond b y z)
owned_at n lo hi true x y t z inner h o keep rest = keep lo hi (subst (IsOwned n lo hi) (the_same t x h) o)
  where
    the_same : (x y : Arm) → Some x ≡ Some y → x ≡ y
    the_same x y h = cc
owned_at n lo hi false x y t z inner h o keep rest = rest h

mutual
  pub owned_put : (n m lo hi a : ℕ) (x y arm : Arm) → IsOwned n lo hi arm → IsSingle a arm → find a m arm ≡ Some x
      → KeepsRange n x y → IsOwned n lo hi (put a y m arm)
  owned_put n m lo hi a x y (Doing items) o single h keep =
      owned_at n lo hi (nat_eq a m) x y (Doing items) (Doing items) None h o keep (λ e. absurd (none_some None x e refl))
  owned_put n m lo hi a x y (Waiting line first arms rest) o single h keep =
      owned_at n lo hi (nat_eq a m) x y (Waiting line first arms rest) (Waiting line first (put_among a y first arms) rest) (find_among a first arms) h o keep
      (λ e. (
        o.0,
        subst (λ k. AreOwned n (first + k) hi (put_among a y first arms)) (sym (size_put a first y arms))
            (owned_put_among n first (first + running_arms arms) hi a x y arms o.1 single e keep),
        o.2,
      ))
  owned_put n m lo hi a x y Ended o single h keep =
      owned_at n lo hi (nat_eq a m) x y Ended Ended None h o keep (λ e. absurd (none_some None x e refl))

  owned_put_among : (n m lo hi a : ℕ) (x y : Arm) (arms : Running) → AreOwned n lo hi arms → AreSingle a m arms
      → find_among a m arms ≡ Some x → KeepsRange n x y → AreOwned n lo hi (put_among a y m arms)
  owned_put_among n m lo hi a x y Nothing o single h keep = o
  owned_put_among n m lo hi a x y (Beside arm arms) o single h keep =
      elim (maybe_none (find a m arm)) [
        | inl none ↦ (
          o.0,
          subst (IsOwned n lo o.0) (sym (none_put a m y arm none)) o.1,
          owned_put_among n (m + 1) o.0 hi a x y arms o.2 single.2
              (ap (λ f. first_some f (find_among a (m + 1) arms)) (sym none) ∙ h) keep,
        )
        | inr some ↦
            (let same = ap (λ f. first_some f (find_among a (m + 1) arms)) (sym some.1) ∙ h in (
              o.0,
              owned_put n m lo o.0 a x y arm o.1 single.0 (some.1 ∙ same) keep,
              subst (AreOwned n o.0 hi) (sym (none_put_among a (m + 1) y arms (elim single.1 [
                | inl none ↦ absurd (none_some (find a m arm) some.0 some.1 none)
                | inr none ↦ none
              ]))) o.2,
            ))
      ]
