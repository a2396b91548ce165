-- The most that a process may ever hold: over all free runs, in which tests go either way and no banker
-- refuses.
use Rattle.std.specs.Prelude.{◌≡◌, ℕ, ◌+◌, ◌≤◌, List, [], ◌∷◌, ◌++◌, true, max}
use Rattle.pb_base.specs.Steppers.{Bundle}
use Rattle.pb_base.specs.Bundle.{amount_in}
use Rattle.pb_names.specs.Program.{Process, Expr, Stmt, Assign, Print, If, While, Hold, Parbegin, Block, Skip}
use Rattle.pb_names.specs.Program.{Then, Arms, NoArm, AndArm}
use Rattle.pb_names.specs.Source.{Item, GiveBack, items_of, Arm}
use Rattle.pb_names.specs.Source.{Doing, Waiting, Ended, Running, Nothing, Beside, begin, all_ended}

-- a list of items in one free step: an assignment or print goes at once, a test goes either way
pub data FreeListStep : List Item → Arm → Type 0 where
  to_end : FreeListStep [] Ended
  past_assign : (line x : ℕ) (e : Expr) (rest : List Item)
      → FreeListStep (Item.Assign line x e ∷ rest) (Doing rest)
  past_print : (line : ℕ) (e : Expr) (rest : List Item)
      → FreeListStep (Item.Print line e ∷ rest) (Doing rest)
  to_then : (line : ℕ) (e : Expr) (a b : Block) (rest : List Item)
      → FreeListStep (Item.If line e a b ∷ rest) (Doing (items_of a ++ rest))
  to_else : (line : ℕ) (e : Expr) (a b : Block) (rest : List Item)
      → FreeListStep (Item.If line e a b ∷ rest) (Doing (items_of b ++ rest))
  past_loop : (line : ℕ) (test e : Expr) (body : Block) (rest : List Item)
      → FreeListStep (Item.While line test e body ∷ rest) (Doing rest)
  into_loop : (line : ℕ) (test e : Expr) (body : Block) (rest : List Item)
      → FreeListStep (Item.While line test e body ∷ rest)
      (Doing (items_of body ++ Item.While line test test body ∷ rest))
  into_hold : (line : ℕ) (bundle : Bundle) (body : Block) (rest : List Item)
      → FreeListStep (Item.Hold line bundle body ∷ rest) (Doing (items_of body ++ GiveBack line bundle ∷ rest))
  past_give : (line : ℕ) (bundle : Bundle) (rest : List Item)
      → FreeListStep (GiveBack line bundle ∷ rest) (Doing rest)
  into_arms : (line first : ℕ) (arms : Arms) (rest : List Item)
      → FreeListStep (Item.Parbegin line first arms ∷ rest) (Waiting line first (begin arms) rest)

-- any list of the run may be the one that steps
mutual
  pub data FreeStep : Arm → Arm → Type 0 where
    in_list : (items : List Item) (next : Arm) → FreeListStep items next → FreeStep (Doing items) next
    join : (line first : ℕ) (arms : Running) (rest : List Item)
        → all_ended arms ≡ true → FreeStep (Waiting line first arms rest) (Doing rest)
    in_arms : (line first : ℕ) (arms arms' : Running) (rest : List Item)
        → FreeStepAmong arms arms' → FreeStep (Waiting line first arms rest) (Waiting line first arms' rest)

  pub data FreeStepAmong : Running → Running → Type 0 where
    in_first : (arm arm' : Arm) (arms : Running)
        → FreeStep arm arm' → FreeStepAmong (Beside arm arms) (Beside arm' arms)
    in_later : (arm : Arm) (arms arms' : Running)
        → FreeStepAmong arms arms' → FreeStepAmong (Beside arm arms) (Beside arm arms')

-- the arm after any number of free steps from the start
pub data FreeRun (start : Arm) : Arm → Type 0 where
  at_start : FreeRun start start
  and_then : (arm next : Arm) → FreeRun start arm → FreeStep arm next → FreeRun start next

-- what an item is to give back of a resource: nothing, if it is not a hold to give back
abbrev pub held_in : ℕ → Item → ℕ
held_in r (Item.Assign line x e) = 0
held_in r (Item.Print line e) = 0
held_in r (Item.If line e a b) = 0
held_in r (Item.While line test e body) = 0
held_in r (Item.Hold line bundle body) = 0
held_in r (GiveBack line bundle) = amount_in bundle r
held_in r (Item.Parbegin line first arms) = 0

-- what all items of a list are to give back together
abbrev pub held_in_list : ℕ → List Item → ℕ
held_in_list r [] = 0
held_in_list r (item ∷ items) = held_in r item + held_in_list r items

-- what is held of a resource: all that is to be given back
abbrev mutual
  pub held : ℕ → Arm → ℕ
  held r (Doing items) = held_in_list r items
  held r (Waiting line first arms rest) = held_among r arms + held_in_list r rest
  held r Ended = 0

  pub held_among : ℕ → Running → ℕ
  held_among r Nothing = 0
  held_among r (Beside arm arms) = held r arm + held_among r arms

-- arm 0 of a process at its start, with the whole body to do
abbrev pub start_of : Process → Arm
start_of process = Doing (items_of process.body)

-- the greatest amount of the resource that a free run of the process holds
abbrev pub IsClaim : Process → ℕ → ℕ → Type 0
IsClaim process r amount =
    ((arm : Arm) → FreeRun (start_of process) arm → held r arm ≤ amount)
    × ((arm : Arm) × FreeRun (start_of process) arm × (held r arm ≡ amount))

-- ---- the same in one pass: the greatest over a list and over the sides of a test, the sum over arms, and
-- what a hold adds
abbrev mutual
  pub stmt_peak : ℕ → Stmt → ℕ
  stmt_peak r (Assign line x e) = 0
  stmt_peak r (Print line e) = 0
  stmt_peak r (If line e a b) = max (peak r a) (peak r b)
  stmt_peak r (While line e body) = peak r body
  stmt_peak r (Hold line bundle body) = amount_in bundle r + peak r body
  stmt_peak r (Parbegin line first arms) = arms_peak r arms

  pub peak : ℕ → Block → ℕ
  peak r Skip = 0
  peak r (Then s block) = max (stmt_peak r s) (peak r block)

  pub arms_peak : ℕ → Arms → ℕ
  arms_peak r NoArm = 0
  arms_peak r (AndArm arm arms) = peak r arm + arms_peak r arms
