-- No free run holds more than the one pass finds. What is yet to be held at most is given for every part of a
-- run, and no free step lets it rise.
use Rattle.std.proofs.Common.{◌≡◌, ℕ, ◌+◌, ◌≤◌, max, List, [], ◌∷◌, ◌++◌, refl, ap, arith, append-nil}
use Rattle.pb_base.specs.Bundle.{amount_in}
use Rattle.pb_names.specs.Program.{Stmt, Assign, Print, If, While, Hold, Parbegin, Block, Skip, Then}
use Rattle.pb_names.specs.Program.{Arms, NoArm, AndArm}
use Rattle.pb_names.specs.Source.{Item, GiveBack, item_of, items_of}
use Rattle.pb_names.specs.Source.{Arm, Doing, Waiting, Ended, Running, Nothing, Beside, begin}
use Rattle.pb_names.specs.Claims.{FreeListStep, to_end, past_assign, past_print, to_then, to_else, past_loop}
use Rattle.pb_names.specs.Claims.{into_loop, into_hold, past_give, into_arms, FreeStep, in_list, join, in_arms}
use Rattle.pb_names.specs.Claims.{FreeStepAmong, in_first, in_later, FreeRun, at_start, and_then, held_in}
use Rattle.pb_names.specs.Claims.{held_in_list, held, held_among, stmt_peak, peak, arms_peak}
use Rattle.pb_names.proofs.Holdings.{block_held}

-- ---- the most that is yet to be held

abbrev pub item_peak : ℕ → Item → ℕ
item_peak r (Item.Assign line x e) = 0
item_peak r (Item.Print line e) = 0
item_peak r (Item.If line e a b) = max (peak r a) (peak r b)
item_peak r (Item.While line test e body) = peak r body
item_peak r (Item.Hold line bundle body) = amount_in bundle r + peak r body
item_peak r (GiveBack line bundle) = amount_in bundle r
item_peak r (Item.Parbegin line first arms) = arms_peak r arms

abbrev pub list_peak : ℕ → List Item → ℕ
list_peak r [] = 0
list_peak r (item ∷ rest) = max (item_peak r item + held_in_list r rest) (list_peak r rest)

abbrev mutual
  pub arm_peak : ℕ → Arm → ℕ
  arm_peak r (Doing items) = list_peak r items
  arm_peak r (Waiting line first arms rest) = max (running_peak r arms + held_in_list r rest) (list_peak r rest)
  arm_peak r Ended = 0

  pub running_peak : ℕ → Running → ℕ
  running_peak r Nothing = 0
  running_peak r (Beside arm arms) = arm_peak r arm + running_peak r arms

-- what is held now is part of it
item_held_le : (r : ℕ) (item : Item) → held_in r item ≤ item_peak r item
item_held_le r (Item.Assign line x e) = omega arith
item_held_le r (Item.Print line e) = omega arith
item_held_le r (Item.If line e a b) = omega arith
item_held_le r (Item.While line test e body) = omega arith
item_held_le r (Item.Hold line bundle body) = omega arith
item_held_le r (GiveBack line bundle) = omega arith
item_held_le r (Item.Parbegin line first arms) = omega arith

list_held_le : (r : ℕ) (items : List Item) → held_in_list r items ≤ list_peak r items
list_held_le r [] = omega arith
list_held_le r (item ∷ rest) = omega (arith, item_held_le r item)

mutual
  pub held_le : (r : ℕ) (arm : Arm) → held r arm ≤ arm_peak r arm
  held_le r (Doing items) = list_held_le r items
  held_le r (Waiting line first arms rest) = let a = among_le r arms in omega (arith, a)
  held_le r Ended = omega arith

  pub among_le : (r : ℕ) (arms : Running) → held_among r arms ≤ running_peak r arms
  among_le r Nothing = omega arith
  among_le r (Beside arm arms) = let a = held_le r arm in let b = among_le r arms in omega (arith, a, b)

-- of a list that has not begun it is what the one pass finds
stmt_item_peak : (r : ℕ) (s : Stmt) → item_peak r (item_of s) ≡ stmt_peak r s
stmt_item_peak r (Assign line x e) = refl
stmt_item_peak r (Print line e) = refl
stmt_item_peak r (If line e a b) = refl
stmt_item_peak r (While line e body) = refl
stmt_item_peak r (Hold line bundle body) = refl
stmt_item_peak r (Parbegin line first arms) = refl

pub block_list_peak : (r : ℕ) (block : Block) (rest : List Item)
    → list_peak r (items_of block ++ rest) ≤ max (peak r block + held_in_list r rest) (list_peak r rest)
block_list_peak r Skip rest = omega arith
block_list_peak r (Then s block) rest =
    let a = block_list_peak r block rest in
    let b = block_held r block rest in
    omega (arith, a, b, stmt_item_peak r s, list_held_le r rest)

pub begin_peak : (r : ℕ) (arms : Arms) → running_peak r (begin arms) ≤ arms_peak r arms
begin_peak r NoArm = omega arith
begin_peak r (AndArm arm arms) =
    let a = begin_peak r arms in
    let b = block_list_peak r arm [] in
    let n : list_peak r (items_of arm ++ []) ≡ list_peak r (items_of arm) = ap (list_peak r) (append-nil (items_of arm)) in
    omega (arith, a, b, n)

-- no free step lets it rise
list_step_falls : (r : ℕ) (items : List Item) (next : Arm) → FreeListStep items next
    → arm_peak r next ≤ list_peak r items
list_step_falls r items next to_end = omega arith
list_step_falls r items next (past_assign line x e rest) = omega arith
list_step_falls r items next (past_print line e rest) = omega arith
list_step_falls r items next (to_then line e a b rest) = omega (arith, block_list_peak r a rest)
list_step_falls r items next (to_else line e a b rest) = omega (arith, block_list_peak r b rest)
list_step_falls r items next (past_loop line test e body rest) = omega arith
list_step_falls r items next (into_loop line test e body rest) =
    omega (arith, block_list_peak r body (Item.While line test test body ∷ rest))
list_step_falls r items next (into_hold line bundle body rest) =
    omega (arith, block_list_peak r body (GiveBack line bundle ∷ rest))
list_step_falls r items next (past_give line bundle rest) = omega arith
list_step_falls r items next (into_arms line first arms rest) = omega (arith, begin_peak r arms)

mutual
  pub step_falls : (r : ℕ) (x y : Arm) → FreeStep x y → arm_peak r y ≤ arm_peak r x
  step_falls r x y (in_list items next s) = list_step_falls r items next s
  step_falls r x y (join line first arms rest e) = omega arith
  step_falls r x y (in_arms line first arms arms' rest s) = let a = among_falls r arms arms' s in omega (arith, a)

  pub among_falls : (r : ℕ) (xs ys : Running) → FreeStepAmong xs ys → running_peak r ys ≤ running_peak r xs
  among_falls r xs ys (in_first arm arm' arms s) = let a = step_falls r arm arm' s in omega (arith, a)
  among_falls r xs ys (in_later arm arms arms' s) = let a = among_falls r arms arms' s in omega (arith, a)

pub run_falls : (r : ℕ) (x y : Arm) → FreeRun x y → arm_peak r y ≤ arm_peak r x
run_falls r x y at_start = omega arith
run_falls r x y (and_then arm next run step) =
    let a = run_falls r x arm run in
    let b = step_falls r arm next step in
    omega (arith, a, b)
