-- Trees in which every arm that has no running arms below it is at a hold that the cash does not suffice for: what
-- such a tree lacks comes later in the order than what it holds, of the resources that the order is of.
use Rattle.std.proofs.Common.{◌≡◌, ◌∙◌, ◌⊎◌, inl, inr, ⊎_elim, ℕ, suc, ◌+◌, ◌<◌, ◌≤◌, ℤ, Bool, true, false, cond}
use Rattle.std.proofs.Common.{eqb, List, [], ◌∷◌, ◌++◌, length, get_or, Some, None, refl, sym, ap, subst, arith}
use Rattle.std.proofs.Common.{eqb-true}
use Rattle.std.specs.Prelude.{All, ◌&&◌}
use Rattle.std.proofs.lemmas.Bool.{cases_lt}
use Rattle.std.proofs.lemmas.List.Elements.{All-cons}
use Rattle.pb_base.proofs.Cases.{if_same, bool_cases}
use Rattle.pb_base.proofs.LoanRows.{amount_in-cons}
use Rattle.pb_base.specs.Bundle.{amount_in}
use Rattle.pb_base.specs.declared.pair.Pair.{Pair}
use Rattle.pb_base.specs.Steppers.{Bundle, Silent, Prints, Takes, Returns, Faults, Finishes}
use Rattle.pb_names.specs.Claims.{held, held_in_list, held_among}
use Rattle.pb_names.specs.Program.{Expr}
use Rattle.pb_names.specs.Source.{Item, GiveBack, Arm, Doing, Waiting, Ended, Running, Nothing, Beside, is_ended}
use Rattle.pb_names.specs.Source.{all_ended, running_arms, ExprStep, Is, Becomes, Fails, step_expr, evaluate, ArmStep}
use Rattle.pb_names.specs.Source.{Goes, Breaks, Ends, step_items, step_arm, first_some, find, find_among}
use Rattle.pb_plan.proofs.OrderedItems.{around, FitItems, FitsArm, FitArms, arm_le}
use Rattle.pb_plan.proofs.OrderedPlaces.{not_inside, none_before}
use Rattle.pb_plan.specs.Nests.{IsAmong}
use Rattle.pb_plan.specs.Scarce.{ComesLaterAmong, IsLaterAmong}
use Rattle.pb_verifier.proofs.LoansWithinClaims.{pair_in}

-- ---- what holds of all that is held

pub all_behind : (P : Pair → Type 0) (xs ys : List Pair) → All P (xs ++ ys) → All P ys
all_behind P [] ys all = all
all_behind P (x ∷ xs) ys all = all_behind P xs ys (λ k d l. all (suc k) d (omega (arith, l)))

pub all_before : (P : Pair → Type 0) (xs ys : List Pair) → All P (xs ++ ys) → All P xs
all_before P [] ys all = λ k d l. absurd (omega (arith, l))
all_before P (x ∷ xs) ys all =
    All-cons P x xs (all 0 x (omega arith)) (all_before P xs ys (λ k d l. all (suc k) d (omega (arith, l))))

all_outer : (P : Pair → Type 0) (outer : Bundle) (rest : List Item) → All P (around outer rest) → All P outer
all_outer P outer [] all = all
all_outer P outer (Item.Assign line x e ∷ rest) all = all_outer P outer rest all
all_outer P outer (Item.Print line e ∷ rest) all = all_outer P outer rest all
all_outer P outer (Item.If line e a b ∷ rest) all = all_outer P outer rest all
all_outer P outer (Item.While line test e body ∷ rest) all = all_outer P outer rest all
all_outer P outer (Item.Hold line bundle body ∷ rest) all = all_outer P outer rest all
all_outer P outer (GiveBack line bundle ∷ rest) all =
    all_outer P outer rest (all_behind P bundle (around outer rest) all)
all_outer P outer (Item.Parbegin line first arms ∷ rest) all = all_outer P outer rest all

-- so it holds of a resource that is held
module _ (P : ℕ → Type 0) (r : ℕ) where
  of_bundle : (bundle : Bundle) → 0 < amount_in bundle r → All (λ (pair : Pair). P pair.resource) bundle → P r
  of_bundle [] some all = absurd (omega (arith, some))
  of_bundle (pair ∷ bundle) some all = ⊎_elim
      (λ same. subst P (eqb-true pair.resource r same) (all 0 pair (omega arith)))
      (λ other.
      let a = amount_in-cons pair bundle r in
      let z : cond (eqb pair.resource r) pair.amount 0 ≡ 0 = ap (λ b. cond b pair.amount 0) other in
      of_bundle bundle (omega (arith, some, a, z)) (λ k d l. all (suc k) d (omega (arith, l))))
      (bool_cases (eqb pair.resource r))

  of_list : (outer : Bundle) (rest : List Item) → 0 < held_in_list r rest
      → All (λ (pair : Pair). P pair.resource) (around outer rest) → P r
  of_list outer [] some all = absurd (omega (arith, some))
  of_list outer (Item.Assign line x e ∷ rest) some all = of_list outer rest (omega (arith, some)) all
  of_list outer (Item.Print line e ∷ rest) some all = of_list outer rest (omega (arith, some)) all
  of_list outer (Item.If line e a b ∷ rest) some all = of_list outer rest (omega (arith, some)) all
  of_list outer (Item.While line test e body ∷ rest) some all = of_list outer rest (omega (arith, some)) all
  of_list outer (Item.Hold line bundle body ∷ rest) some all = of_list outer rest (omega (arith, some)) all
  of_list outer (GiveBack line bundle ∷ rest) some all = ⊎_elim
      (λ here. of_bundle bundle here (all_before (λ (pair : Pair). P pair.resource) bundle (around outer rest) all))
      (λ there.
      of_list outer rest (omega (arith, some, there))
      (all_behind (λ (pair : Pair). P pair.resource) bundle (around outer rest) all))
      (cases_lt 0 (amount_in bundle r))
  of_list outer (Item.Parbegin line first arms ∷ rest) some all = of_list outer rest (omega (arith, some)) all

-- a hold follows the order of some of the resources, and asks for no more than there is
pub record IsOrdered (among order : List ℕ) (capital : ℕ → ℕ) (outer asked : Bundle) : Type 0 where
  pub later : ComesLaterAmong among order outer asked
  pub within : (r : ℕ) → amount_in asked r ≤ capital r

-- ---- trees that wait

module _ (among : List ℕ) (cash : ℕ → ℕ) where
  -- the cash does not suffice for one of the pairs, whose resource is one of these
  pub record IsLacking (bundle : Bundle) : Type 0 where
    pub at : ℕ
    pub default : Pair
    pub inside : at < length bundle
    pub lacks : cash (get_or bundle at default).resource < (get_or bundle at default).amount
    pub counts : IsAmong among (get_or bundle at default).resource

  pub lacking_or_not : (bundle : Bundle)
      → All (λ (pair : Pair). cash pair.resource < pair.amount → IsAmong among pair.resource) bundle
      → All (λ (pair : Pair). pair.amount ≤ cash pair.resource) bundle ⊎ IsLacking bundle
  lacking_or_not [] each = inl (λ k d l. absurd (omega (arith, l)))
  lacking_or_not (pair ∷ bundle) each = ⊎_elim
      (λ short.
      inr (record {
        at = 0;
        default = pair;
        inside = omega arith;
        lacks = short;
        counts = each 0 pair (omega arith) short;
      }))
      (λ enough. ⊎_elim
      (λ all. inl (All-cons (λ (x : Pair). x.amount ≤ cash x.resource) pair bundle enough all))
      (λ l. inr (later l)) (lacking_or_not bundle (λ k d l. each (suc k) d (omega (arith, l)))))
      (cases_lt (cash pair.resource) pair.amount)
    where
      later : IsLacking bundle → IsLacking (pair ∷ bundle)
      later l =
          let u = l.inside in
          record { at = suc l.at; default = l.default; inside = omega (arith, u); lacks = l.lacks; counts = l.counts }

  abbrev pub Waits : ArmStep → Type 0
  Waits (Goes vars new Silent) = ⊥
  Waits (Goes vars new (Prints v)) = ⊥
  Waits (Goes vars new (Takes bundle)) = IsLacking bundle
  Waits (Goes vars new (Returns bundle)) = ⊥
  Waits (Goes vars new (Faults kind)) = ⊥
  Waits (Goes vars new Finishes) = ⊥
  Waits (Breaks kind) = ⊥
  Waits Ends = ⊥

  abbrev IsHeldUp : List Item → Type 0
  IsHeldUp [] = ⊥
  IsHeldUp (Item.Assign line x e ∷ rest) = ⊥
  IsHeldUp (Item.Print line e ∷ rest) = ⊥
  IsHeldUp (Item.If line e a b ∷ rest) = ⊥
  IsHeldUp (Item.While line test e body ∷ rest) = ⊥
  IsHeldUp (Item.Hold line bundle body ∷ rest) = IsLacking bundle
  IsHeldUp (GiveBack line bundle ∷ rest) = ⊥
  IsHeldUp (Item.Parbegin line first arms ∷ rest) = ⊥

  abbrev mutual
    pub IsStuck : Arm → Type 0
    IsStuck (Doing items) = IsHeldUp items
    IsStuck (Waiting line first arms rest) = (all_ended arms ≡ false) × AreStuck arms
    IsStuck Ended = Unit {0}

    pub AreStuck : Running → Type 0
    AreStuck Nothing = Unit {0}
    AreStuck (Beside arm arms) = IsStuck arm × AreStuck arms

  no_wait : (res : ExprStep) (keep : Expr → ArmStep) (done : ℤ → ArmStep) → ((e : Expr) → Waits (keep e) → ⊥)
      → ((v : ℤ) → Waits (done v) → ⊥) → Waits (evaluate res keep done) → ⊥
  no_wait (Is v) keep done k d w = d v w
  no_wait (Becomes e) keep done k d w = k e w
  no_wait (Fails kind) keep done k d w = w

  held_up : (vars : List ℤ) (items : List Item) → Waits (step_items vars items) → IsHeldUp items
  held_up vars [] w = w
  held_up vars (Item.Assign line x e ∷ rest) w = no_wait (step_expr vars e) _ _ (λ e' z. z) (λ v z. z) w
  held_up vars (Item.Print line e ∷ rest) w = no_wait (step_expr vars e) _ _ (λ e' z. z) (λ v z. z) w
  held_up vars (Item.If line e a b ∷ rest) w = no_wait (step_expr vars e) _ _ (λ e' z. z) (λ v z. z) w
  held_up vars (Item.While line test e body ∷ rest) w = no_wait (step_expr vars e) _ _ (λ e' z. z) (λ v z. z) w
  held_up vars (Item.Hold line bundle body ∷ rest) w = w
  held_up vars (GiveBack line bundle ∷ rest) w = w
  held_up vars (Item.Parbegin line first arms ∷ rest) w = w

  module _ (Meets : Bundle → Bundle → Type 0) (vars : List ℤ) where
    -- each step that an arm of the tree could make waits
    abbrev pub EachWaits : ℕ → Arm → Type 0
    EachWaits n arm =
        (a : ℕ) (found : Arm) (st : ArmStep) → find a n arm ≡ Some found → step_arm vars found ≡ Some st → Waits st

    abbrev AllWait : ℕ → Running → Type 0
    AllWait n arms =
        (a : ℕ) (found : Arm) (st : ArmStep) → find_among a n arms ≡ Some found → step_arm vars found ≡ Some st
        → Waits st

    not_all_ended : (n line first : ℕ) (arms : Running) (rest : List Item)
        → EachWaits n (Waiting line first arms rest) → (b : Bool) → all_ended arms ≡ b → all_ended arms ≡ false
    not_all_ended n line first arms rest each true e =
        absurd (each n (Waiting line first arms rest) (Goes vars (Doing rest) Silent) (if_same n n _ _ refl)
        (ap (λ b. cond b (Some (Goes vars (Doing rest) Silent)) None) e))
    not_all_ended n line first arms rest each false e = e

    mutual
      pub stuck : (n lo hi : ℕ) (outer : Bundle) (arm : Arm) → n < lo → FitsArm Meets lo hi outer arm
          → EachWaits n arm → IsStuck arm
      stuck n lo hi outer (Doing items) less h each =
          held_up vars items (each n (Doing items) (step_items vars items) (if_same n n _ _ refl) refl)
      stuck n lo hi outer (Waiting line first arms rest) less h each = (
        not_all_ended n line first arms rest each (all_ended arms) refl,
        all_stuck first (first + running_arms arms) hi (around outer rest) arms (omega arith) h.2
            (λ a found st f s.
            each a found st (not_inside Meets a n lo hi line first outer arms rest found less h f) s),
      )
      stuck n lo hi outer Ended less h each = tt

      all_stuck : (n lo hi : ℕ) (outer : Bundle) (arms : Running) → n + running_arms arms ≤ lo
          → FitArms Meets lo hi outer arms → AllWait n arms → AreStuck arms
      all_stuck n lo hi outer Nothing less h each = tt
      all_stuck n lo hi outer (Beside arm arms) less h each =
          let le = arm_le Meets lo h.0 outer arm h.1 in (
            stuck n lo h.0 outer arm (omega (arith, less)) h.1
                (λ a found st f s. each a found st (ap (λ o. first_some o (find_among a (n + 1) arms)) f) s),
            all_stuck (n + 1) h.0 hi outer arms (omega (arith, less, le)) h.2
                (λ a found st f s.
                each a found st
                (ap (λ o. first_some o (find_among a (n + 1) arms))
                (none_before Meets a n lo hi outer arm arms found h less f) ∙ f) s),
          )

  -- ---- what they lack

  module _ (order : List ℕ) (capital : ℕ → ℕ) where
    -- a resource of which something is lent comes later than all of these that count, and counts itself
    pub record IsShort (outer : Bundle) : Type 0 where
      pub resource : ℕ
      pub counts : IsAmong among resource
      pub lent : cash resource < capital resource
      pub later : All (λ (pair : Pair). IsLaterAmong among order pair.resource resource) outer

    short_of : (outer bundle : Bundle) → IsOrdered among order capital outer bundle → IsLacking bundle → IsShort outer
    short_of outer bundle ordered l =
        let most = ordered.within (get_or bundle l.at l.default).resource in
        let pair = pair_in bundle l.at l.default l.inside in
        let lacks = l.lacks in
        record {
          resource = (get_or bundle l.at l.default).resource;
          counts = l.counts;
          lent = omega (arith, most, pair, lacks);
          later = ordered.later l.at l.default l.inside;
        }

    outward : (outer : Bundle) (rest : List Item) → IsShort (around outer rest) → IsShort outer
    outward outer rest s = record {
      resource = s.resource;
      counts = s.counts;
      lent = s.lent;
      later = all_outer (λ (pair : Pair). IsLaterAmong among order pair.resource s.resource) outer rest s.later;
    }

    -- a list that is held up is short of something that comes later than all that is held
    list_short : (lo hi : ℕ) (outer : Bundle) (items : List Item) → IsHeldUp items
        → FitItems (IsOrdered among order capital) lo hi outer items → IsShort (around outer items)
    list_short lo hi outer [] stuck h = absurd stuck
    list_short lo hi outer (Item.Assign line x e ∷ rest) stuck h = absurd stuck
    list_short lo hi outer (Item.Print line e ∷ rest) stuck h = absurd stuck
    list_short lo hi outer (Item.If line e a b ∷ rest) stuck h = absurd stuck
    list_short lo hi outer (Item.While line test e body ∷ rest) stuck h = absurd stuck
    list_short lo hi outer (Item.Hold line bundle body ∷ rest) stuck h =
        short_of (around outer rest) bundle h.0.0 stuck
    list_short lo hi outer (GiveBack line bundle ∷ rest) stuck h = absurd stuck
    list_short lo hi outer (Item.Parbegin line first arms ∷ rest) stuck h = absurd stuck

    mutual
      -- so is an arm that has not ended
      pub arm_short : (lo hi : ℕ) (outer : Bundle) (arm : Arm) → IsStuck arm → is_ended arm ≡ false
          → FitsArm (IsOrdered among order capital) lo hi outer arm → IsShort outer
      arm_short lo hi outer (Doing items) stuck live h =
          outward outer items (list_short lo hi outer items stuck h.1)
      arm_short lo hi outer (Waiting line first arms rest) stuck live h =
          outward outer rest
          (arms_short (first + running_arms arms) hi (around outer rest) arms stuck.1 stuck.0 h.2)
      arm_short lo hi outer Ended stuck live h = cc

      arms_short : (lo hi : ℕ) (outer : Bundle) (arms : Running) → AreStuck arms → all_ended arms ≡ false
          → FitArms (IsOrdered among order capital) lo hi outer arms → IsShort outer
      arms_short lo hi outer Nothing stuck live h = cc
      arms_short lo hi outer (Beside arm arms) stuck live h = ⊎_elim
          (λ e. arms_short h.0 hi outer arms stuck.1 (sym (ap (λ b. b && all_ended arms) e) ∙ live) h.2)
          (λ e. arm_short lo h.0 outer arm stuck.0 e h.1) (bool_cases (is_ended arm))

    -- short of something that comes later than r
    pub record IsShortPast (r : ℕ) : Type 0 where
      pub resource : ℕ
      pub counts : IsAmong among resource
      pub lent : cash resource < capital resource
      pub later : IsLaterAmong among order r resource

    past : (outer : Bundle) (r : ℕ) (items : List Item) → 0 < held_in_list r items → IsShort (around outer items)
        → IsShortPast r
    past outer r items some s = record {
      resource = s.resource;
      counts = s.counts;
      lent = s.lent;
      later = of_list (λ q. IsLaterAmong among order q s.resource) r outer items some s.later;
    }

    mutual
      -- a tree that holds some of r is short of something that comes later
      pub holder_short : (r lo hi : ℕ) (outer : Bundle) (arm : Arm) → IsStuck arm → 0 < held r arm
          → FitsArm (IsOrdered among order capital) lo hi outer arm → IsShortPast r
      holder_short r lo hi outer (Doing items) stuck some h =
          past outer r items some (list_short lo hi outer items stuck h.1)
      holder_short r lo hi outer (Waiting line first arms rest) stuck some h = ⊎_elim
          (λ inside.
          holders_short r (first + running_arms arms) hi (around outer rest) arms stuck.1 inside h.2)
          (λ none.
          past outer r rest (omega (arith, some, none))
          (arms_short (first + running_arms arms) hi (around outer rest) arms stuck.1 stuck.0 h.2))
          (cases_lt 0 (held_among r arms))
      holder_short r lo hi outer Ended stuck some h = absurd (omega (arith, some))

      holders_short : (r lo hi : ℕ) (outer : Bundle) (arms : Running) → AreStuck arms → 0 < held_among r arms
          → FitArms (IsOrdered among order capital) lo hi outer arms → IsShortPast r
      holders_short r lo hi outer Nothing stuck some h = absurd (omega (arith, some))
      holders_short r lo hi outer (Beside arm arms) stuck some h = ⊎_elim
          (λ here. holder_short r lo h.0 outer arm stuck.0 here h.1)
          (λ none. holders_short r h.0 hi outer arms stuck.1 (omega (arith, some, none)) h.2)
          (cases_lt 0 (held r arm))
