-- Runs that are the same except for what is left of their expressions.
use Rattle.std.proofs.Common.{◌≡◌, ◌⊎◌, inl, inr, ℕ, ◌+◌, ℤ, Bool, true, false, cond, ◌&&◌, List, [], ◌∷◌}
use Rattle.std.proofs.Common.{◌++◌, refl, sym, ap, ◌∙◌, arith}
use Rattle.pb_base.specs.Arithmetic.{is_zero}
use Rattle.pb_base.specs.Steppers.{Bundle}
use Rattle.pb_base.specs.Steppers.{Effect, Silent}
use Rattle.pb_names.specs.Program.{Expr, Block}
use Rattle.pb_names.specs.Program.{Arms}
use Rattle.pb_names.specs.Source.{ExprStep, Is, Becomes, Fails, step_expr, Item}
use Rattle.pb_names.specs.Source.{GiveBack, items_of, Arm, Doing, Waiting, Ended}
use Rattle.pb_names.specs.Source.{Running, Nothing, Beside, begin, is_ended, all_ended, ArmStep, Goes, Breaks}
use Rattle.pb_names.specs.Source.{Ends, evaluate, step_items}
use Rattle.pb_names.specs.Claims.{FreeListStep, to_end, past_assign, past_print, to_then, to_else, past_loop}
use Rattle.pb_names.specs.Claims.{into_loop, into_hold, past_give, into_arms, FreeStep, in_list, join}
use Rattle.pb_names.specs.Claims.{in_arms, FreeStepAmong, in_first, in_later, held_in, held_in_list, held}
use Rattle.pb_names.specs.Claims.{held_among}
use Rattle.pb_names.proofs.Holdings.{block_held, begin_held}
use Rattle.pb_verifier.proofs.Threads.{taken, given}

pub data SameItem : Item → Item → Type 0 where
  same_assign : (line x : ℕ) (e e' : Expr) → SameItem (Item.Assign line x e) (Item.Assign line x e')
  same_print : (line : ℕ) (e e' : Expr) → SameItem (Item.Print line e) (Item.Print line e')
  same_choice : (line : ℕ) (e e' : Expr) (a b : Block) → SameItem (Item.If line e a b) (Item.If line e' a b)
  same_loop : (line : ℕ) (test e e' : Expr) (body : Block)
      → SameItem (Item.While line test e body) (Item.While line test e' body)
  same_hold : (line : ℕ) (bundle : Bundle) (body : Block)
      → SameItem (Item.Hold line bundle body) (Item.Hold line bundle body)
  same_give : (line : ℕ) (bundle : Bundle) → SameItem (GiveBack line bundle) (GiveBack line bundle)
  same_parallel : (line first : ℕ) (arms : Arms)
      → SameItem (Item.Parbegin line first arms) (Item.Parbegin line first arms)

pub data SameItems : List Item → List Item → Type 0 where
  same_none : SameItems [] []
  same_more : (i j : Item) (is js : List Item) → SameItem i j → SameItems is js → SameItems (i ∷ is) (j ∷ js)

mutual
  pub data SameArm : Arm → Arm → Type 0 where
    same_doing : (is js : List Item) → SameItems is js → SameArm (Doing is) (Doing js)
    same_waiting : (line first : ℕ) (xs ys : Running) (is js : List Item) → SameRunning xs ys
        → SameItems is js → SameArm (Waiting line first xs is) (Waiting line first ys js)
    same_ended : SameArm Ended Ended

  pub data SameRunning : Running → Running → Type 0 where
    same_nothing : SameRunning Nothing Nothing
    same_beside : (a b : Arm) (xs ys : Running) → SameArm a b → SameRunning xs ys
        → SameRunning (Beside a xs) (Beside b ys)

same_item : (i : Item) → SameItem i i
same_item (Item.Assign line x e) = same_assign line x e e
same_item (Item.Print line e) = same_print line e e
same_item (Item.If line e a b) = same_choice line e e a b
same_item (Item.While line test e body) = same_loop line test e e body
same_item (Item.Hold line bundle body) = same_hold line bundle body
same_item (GiveBack line bundle) = same_give line bundle
same_item (Item.Parbegin line first arms) = same_parallel line first arms

pub same_items : (is : List Item) → SameItems is is
same_items [] = same_none
same_items (i ∷ is) = same_more i i is is (same_item i) (same_items is)

mutual
  pub same_arm : (a : Arm) → SameArm a a
  same_arm (Doing items) = same_doing items items (same_items items)
  same_arm (Waiting line first arms rest) =
      same_waiting line first arms arms rest rest (same_running arms) (same_items rest)
  same_arm Ended = same_ended

  pub same_running : (xs : Running) → SameRunning xs xs
  same_running Nothing = same_nothing
  same_running (Beside a xs) = same_beside a a xs xs (same_arm a) (same_running xs)

same_item_trans : (i j k : Item) → SameItem i j → SameItem j k → SameItem i k
same_item_trans i j k (same_assign line x e e') (same_assign line' x' f f') = same_assign line x e f'
same_item_trans i j k (same_print line e e') (same_print line' f f') = same_print line e f'
same_item_trans i j k (same_choice line e e' a b) (same_choice line' f f' a' b') = same_choice line e f' a b
same_item_trans i j k (same_loop line test e e' body) (same_loop line' test' f f' body') =
    same_loop line test e f' body
same_item_trans i j k (same_hold line bundle body) h = h
same_item_trans i j k (same_give line bundle) h = h
same_item_trans i j k (same_parallel line first arms) h = h

same_items_trans : (is js ks : List Item) → SameItems is js → SameItems js ks → SameItems is ks
same_items_trans is js ks same_none h = h
same_items_trans is js ks (same_more i j is' js' a h) (same_more j' k js'' ks' b g) =
    same_more i k is' ks' (same_item_trans i j k a b) (same_items_trans is' js' ks' h g)

mutual
  pub same_arm_trans : (x y z : Arm) → SameArm x y → SameArm y z → SameArm x z
  same_arm_trans x y z (same_doing is js h) (same_doing js' ks g) =
      same_doing is ks (same_items_trans is js ks h g)
  same_arm_trans x y z (same_waiting line first xs ys is js a h) (same_waiting line' first' ys' zs js' ks b g) =
      same_waiting line first xs zs is ks (same_running_trans xs ys zs a b) (same_items_trans is js ks h g)
  same_arm_trans x y z same_ended h = h

  same_running_trans : (xs ys zs : Running) → SameRunning xs ys → SameRunning ys zs → SameRunning xs zs
  same_running_trans xs ys zs same_nothing h = h
  same_running_trans xs ys zs (same_beside a b as' bs' h hs) (same_beside b' c bs'' cs g gs) =
      same_beside a c as' cs (same_arm_trans a b c h g) (same_running_trans as' bs' cs hs gs)

same_item_sym : (i j : Item) → SameItem i j → SameItem j i
same_item_sym i j (same_assign line x e e') = same_assign line x e' e
same_item_sym i j (same_print line e e') = same_print line e' e
same_item_sym i j (same_choice line e e' a b) = same_choice line e' e a b
same_item_sym i j (same_loop line test e e' body) = same_loop line test e' e body
same_item_sym i j (same_hold line bundle body) = same_hold line bundle body
same_item_sym i j (same_give line bundle) = same_give line bundle
same_item_sym i j (same_parallel line first arms) = same_parallel line first arms

same_items_sym : (is js : List Item) → SameItems is js → SameItems js is
same_items_sym is js same_none = same_none
same_items_sym is js (same_more i j is' js' a h) =
    same_more j i js' is' (same_item_sym i j a) (same_items_sym is' js' h)

mutual
  pub same_arm_sym : (x y : Arm) → SameArm x y → SameArm y x
  same_arm_sym x y (same_doing is js h) = same_doing js is (same_items_sym is js h)
  same_arm_sym x y (same_waiting line first xs ys is js a h) =
      same_waiting line first ys xs js is (same_running_sym xs ys a) (same_items_sym is js h)
  same_arm_sym x y same_ended = same_ended

  same_running_sym : (xs ys : Running) → SameRunning xs ys → SameRunning ys xs
  same_running_sym xs ys same_nothing = same_nothing
  same_running_sym xs ys (same_beside a b as' bs' h hs) =
      same_beside b a bs' as' (same_arm_sym a b h) (same_running_sym as' bs' hs)

append_same : (xs is js : List Item) → SameItems is js → SameItems (xs ++ is) (xs ++ js)
append_same [] is js h = h
append_same (x ∷ xs) is js h = same_more x x (xs ++ is) (xs ++ js) (same_item x) (append_same xs is js h)

-- ---- free steps don't look at what is left of an expression

list_step_same : (is js : List Item) (next : Arm) → FreeListStep is next → SameItems is js
    → (next' : Arm) × FreeListStep js next' × SameArm next next'
list_step_same is js next to_end same_none = (Ended, to_end, same_ended)
list_step_same is js next (past_assign line x e rest) (same_more i j is' js' (same_assign line' x' f f') h) =
    (Doing js', past_assign line x f' js', same_doing rest js' h)
list_step_same is js next (past_print line e rest) (same_more i j is' js' (same_print line' f f') h) =
    (Doing js', past_print line f' js', same_doing rest js' h)
list_step_same is js next (to_then line e a b rest) (same_more i j is' js' (same_choice line' f f' a' b') h) =
    (Doing (items_of a ++ js'), to_then line f' a b js', same_doing (items_of a ++ rest) (items_of a ++ js') (append_same (items_of a) rest js' h))
list_step_same is js next (to_else line e a b rest) (same_more i j is' js' (same_choice line' f f' a' b') h) =
    (Doing (items_of b ++ js'), to_else line f' a b js', same_doing (items_of b ++ rest) (items_of b ++ js') (append_same (items_of b) rest js' h))
list_step_same is js next (past_loop line test e body rest) (same_more i j is' js' (same_loop line' test' f f' body')
    h) = (Doing js', past_loop line test f' body js', same_doing rest js' h)
list_step_same is js next (into_loop line test e body rest) (same_more i j is' js' (same_loop line' test' f f' body') h) = (
  Doing (items_of body ++ Item.While line test test body ∷ js'),
  into_loop line test f' body js',
  same_doing _ _ (append_same (items_of body) (Item.While line test test body ∷ rest) (Item.While line test test body ∷ js')
      (same_more _ _ rest js' (same_loop line test test test body) h)),
)
list_step_same is js next (into_hold line bundle body rest) (same_more i j is' js' (same_hold line' bundle' body') h) = (
  Doing (items_of body ++ GiveBack line bundle ∷ js'),
  into_hold line bundle body js',
  same_doing _ _ (append_same (items_of body) (GiveBack line bundle ∷ rest) (GiveBack line bundle ∷ js') (same_more _ _ rest js' (same_give line bundle) h)),
)
list_step_same is js next (past_give line bundle rest) (same_more i j is' js' (same_give line' bundle') h) =
    (Doing js', past_give line bundle js', same_doing rest js' h)
list_step_same is js next (into_arms line first arms rest) (same_more i j is' js' (same_parallel line' first' arms') h) = (
  Waiting line first (begin arms) js',
  into_arms line first arms js',
  same_waiting line first (begin arms) (begin
      arms) rest js' (same_running (begin arms)) h,
)

ended_same : (x y : Arm) → SameArm x y → is_ended x ≡ is_ended y
ended_same x y (same_doing is js h) = refl
ended_same x y (same_waiting line first xs ys is js g h) = refl
ended_same x y same_ended = refl

all_ended_same : (xs ys : Running) → SameRunning xs ys → all_ended xs ≡ all_ended ys
all_ended_same xs ys same_nothing = refl
all_ended_same xs ys (same_beside a b as' bs' h g) =
    ap (λ z. z && all_ended as') (ended_same a b h) ∙ ap (λ z. is_ended b && z) (all_ended_same as' bs' g)

mutual
  pub step_same : (x y x' : Arm) → FreeStep x y → SameArm x x' → (y' : Arm) × FreeStep x' y' × SameArm y y'
  step_same x y x' (in_list items next s) (same_doing is js h) =
      let r = list_step_same items js next s h in (r.0, in_list js r.0 r.1, r.2)
  step_same x y x' (join line first arms rest e) (same_waiting line' first' xs ys is js g h) =
      (Doing js, join line first ys js (sym (all_ended_same xs ys g) ∙ e), same_doing rest js h)
  step_same x y x' (in_arms line first arms arms' rest s) (same_waiting line' first' xs ys is js g h) =
      let r = step_among_same arms arms' ys s g in
      (Waiting line first r.0 js, in_arms line first ys r.0 js r.1, same_waiting line first arms' r.0 rest js r.2 h)

  step_among_same : (xs ys xs' : Running) → FreeStepAmong xs ys → SameRunning xs xs'
      → (ys' : Running) × FreeStepAmong xs' ys' × SameRunning ys ys'
  step_among_same xs ys xs' (in_first arm arm' arms s) (same_beside a b as' bs' h g) =
      let r = step_same arm arm' b s h in (Beside r.0 bs', in_first b r.0 bs' r.1, same_beside arm' r.0 arms bs' r.2 g)
  step_among_same xs ys xs' (in_later arm arms arms' s) (same_beside a b as' bs' h g) =
      let r = step_among_same arms arms' bs' s g in (Beside b r.0, in_later b bs' r.0 r.1, same_beside arm b arms' r.0 h r.2)

-- ---- what is held

item_held_same : (r : ℕ) (i j : Item) → SameItem i j → held_in r i ≡ held_in r j
item_held_same r i j (same_assign line x e e') = refl
item_held_same r i j (same_print line e e') = refl
item_held_same r i j (same_choice line e e' a b) = refl
item_held_same r i j (same_loop line test e e' body) = refl
item_held_same r i j (same_hold line bundle body) = refl
item_held_same r i j (same_give line bundle) = refl
item_held_same r i j (same_parallel line first arms) = refl

list_held_same : (r : ℕ) (is js : List Item) → SameItems is js → held_in_list r is ≡ held_in_list r js
list_held_same r is js same_none = refl
list_held_same r is js (same_more i j is' js' a h) =
    omega (arith, item_held_same r i j a, list_held_same r is' js' h)

mutual
  pub held_same : (r : ℕ) (x y : Arm) → SameArm x y → held r x ≡ held r y
  held_same r x y (same_doing is js h) = list_held_same r is js h
  held_same r x y (same_waiting line first xs ys is js g h) =
      let a = running_held_same r xs ys g in let b = list_held_same r is js h in omega (arith, a, b)
  held_same r x y same_ended = refl

  running_held_same : (r : ℕ) (xs ys : Running) → SameRunning xs ys → held_among r xs ≡ held_among r ys
  running_held_same r xs ys same_nothing = refl
  running_held_same r xs ys (same_beside a b as' bs' h g) =
      let p = held_same r a b h in let q = running_held_same r as' bs' g in omega (arith, p, q)

-- ---- a step of the source is a free step, or changes only what is left of an expression

pub record IsFree (x y : Arm) (effect : Effect) : Type 0 where
  pub way : SameArm x y ⊎ FreeStep x y
  pub balance : (r : ℕ) → held r y + given r effect ≡ held r x + taken r effect

abbrev pub Frees : List Item → ArmStep → Type 0
Frees items (Goes vars new effect) = IsFree (Doing items) new effect
Frees items (Breaks kind) = Unit {0}
Frees items Ends = IsFree (Doing items) Ended Silent

evaluate_frees : (items : List Item) (res : ExprStep) (keep : Expr → ArmStep) (done : ℤ → ArmStep)
    → ((e : Expr) → Frees items (keep e)) → ((v : ℤ) → Frees items (done v))
    → Frees items (evaluate res keep done)
evaluate_frees items (Is v) keep done k d = d v
evaluate_frees items (Becomes e) keep done k d = k e
evaluate_frees items (Fails kind) keep done k d = tt

kept : (i j : Item) (rest : List Item) → SameItem i j → IsFree (Doing (i ∷ rest)) (Doing (j ∷ rest)) Silent
kept i j rest h = record {
  way = inl (same_doing _ _ (same_more i j rest rest h (same_items rest)));
  balance = λ r.
      let e = item_held_same r i j h in omega (arith, e);
}

choice_frees : (z : Bool) (line : ℕ) (e : Expr) (a b : Block) (rest : List Item)
    → IsFree (Doing (Item.If line e a b ∷ rest)) (Doing (items_of (cond z b a) ++ rest)) Silent
choice_frees true line e a b rest = record { way = inr (in_list _ _ (to_else line e a b rest)); balance = λ r. let q = block_held r b rest in omega (arith, q) }
choice_frees false line e a b rest = record {
  way = inr (in_list _ _ (to_then line e a b rest));
  balance = λ r. let q
      = block_held r a rest in omega (arith, q);
}

loop_frees : (z : Bool) (line : ℕ) (test e : Expr) (body : Block) (rest : List Item)
    → IsFree (Doing (Item.While line test e body ∷ rest))
    (Doing (cond z rest (items_of body ++ Item.While line test test body ∷ rest))) Silent
loop_frees true line test e body rest =
    record { way = inr (in_list _ _ (past_loop line test e body rest)); balance = λ r. omega arith }
loop_frees false line test e body rest = record {
  way = inr (in_list _ _ (into_loop line test e body rest));
  balance =
      λ r. let q = block_held r body (Item.While line test test body ∷ rest) in omega (arith, q);
}

pub step_frees : (vars : List ℤ) (items : List Item) → Frees items (step_items vars items)
step_frees vars [] = record { way = inr (in_list _ _ to_end); balance = λ r. refl }
step_frees vars (Item.Assign line x e ∷ rest) =
    evaluate_frees _ (step_expr vars e) _ _ (λ e'. kept _ _ rest (same_assign line x e e'))
    (λ v. record { way = inr (in_list _ _ (past_assign line x e rest)); balance = λ r. omega arith })
step_frees vars (Item.Print line e ∷ rest) =
    evaluate_frees _ (step_expr vars e) _ _ (λ e'. kept _ _ rest (same_print line e e'))
    (λ v. record { way = inr (in_list _ _ (past_print line e rest)); balance = λ r. omega arith })
step_frees vars (Item.If line e a b ∷ rest) =
    evaluate_frees _ (step_expr vars e) _ _ (λ e'. kept _ _ rest (same_choice line e e' a b)) (λ v. choice_frees (is_zero v) line e a b rest)
step_frees vars (Item.While line test e body ∷ rest) =
    evaluate_frees _ (step_expr vars e) _ _ (λ e'. kept _ _ rest (same_loop line test e e' body)) (λ v. loop_frees (is_zero v) line test e body rest)
step_frees vars (Item.Hold line bundle body ∷ rest) =
    record {
      way = inr (in_list _ _ (into_hold line bundle body rest));
      balance = λ r. let q = block_held r body
          (GiveBack line bundle ∷ rest) in omega (arith, q);
    }
step_frees vars (GiveBack line bundle ∷ rest) =
    record { way = inr (in_list _ _ (past_give line bundle rest)); balance = λ r. omega arith }
step_frees vars (Item.Parbegin line first arms ∷ rest) =
    record { way = inr (in_list _ _ (into_arms line first arms rest)); balance = λ r. let q = begin_held r arms in omega (arith, q) }
