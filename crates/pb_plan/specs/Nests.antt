-- What holds ask for, and the first hold in the text that asks for one resource inside one that asks for another.
use Rattle.std.specs.Prelude.{◌≡◌, ℕ, ◌<◌, ◌==◌, ◌||◌, Bool, false, cond, List, [], ◌∷◌, ◌++◌, length, Option, Some, None, All}
use Rattle.std.specs.Prelude.{slice_get}
use Rattle.std.specs.List.{range_with_len}
use Rattle.std.specs.List.Sorted.{IsPermutation}
use Rattle.pb_base.specs.Steppers.{Bundle}
use Rattle.pb_names.specs.Program.{Stmt, Assign, Print, If, While, Hold, Parbegin, Block, Skip, Then, Arms, NoArm}
use Rattle.pb_names.specs.Program.{AndArm, Process}
use Rattle.pb_plan.specs.Orders.{EachHold, place}
use Rattle.pb_plan.specs.declared.nest.Nest.{Nest}

-- a bundle asks for a resource
abbrev pub asks : ℕ → Bundle → Bool
asks r [] = false
asks r (pair ∷ bundle) = (pair.resource == r) || asks r bundle

-- the processes ask only for these many resources
abbrev pub AskBelow : ℕ → List Process → Type 0
AskBelow n processes =
    All (λ process. EachHold (λ around asked. All (λ pair. pair.resource < n) asked) [] process.body) processes

-- an order of n resources
abbrev pub IsOrder : ℕ → List ℕ → Type 0
IsOrder n order = IsPermutation (range_with_len 0 n) order

-- ---- how an order or a circle is found. No public contract cites what follows

-- the first of two, or the second
abbrev pub first : Option Nest → Option Nest → Option Nest
first (Some nest) other = Some nest
first None other = other

-- a hold that asks for the inner resource inside one at a line that asks for the outer one
abbrev pub own_nest : (outer inner : ℕ) → Option ℕ → (line : ℕ) → Bundle → Option Nest
own_nest outer inner None line bundle = None
own_nest outer inner (Some around) line bundle =
    cond (asks inner bundle)
    (Some (record { outer_line = around; outer = outer; inner_line = line; inner = inner })) None

-- the line of the last hold around that asks for the outer resource
abbrev pub held_inside : (outer : ℕ) → Option ℕ → (line : ℕ) → Bundle → Option ℕ
held_inside outer held line bundle = cond (asks outer bundle) (Some line) held

-- the first such hold in a statement, in a block and in arms; `held` is the line of the outer hold around them
abbrev mutual
  pub stmt_nest : (outer inner : ℕ) → Option ℕ → Stmt → Option Nest
  stmt_nest outer inner held (Assign line x e) = None
  stmt_nest outer inner held (Print line e) = None
  stmt_nest outer inner held (If line e a b) = first (nest outer inner held a) (nest outer inner held b)
  stmt_nest outer inner held (While line e body) = nest outer inner held body
  stmt_nest outer inner held (Hold line bundle body) =
      first (own_nest outer inner held line bundle) (nest outer inner (held_inside outer held line bundle) body)
  stmt_nest outer inner held (Parbegin line number arms) = arms_nest outer inner held arms

  pub nest : (outer inner : ℕ) → Option ℕ → Block → Option Nest
  nest outer inner held Skip = None
  nest outer inner held (Then s block) = first (stmt_nest outer inner held s) (nest outer inner held block)

  pub arms_nest : (outer inner : ℕ) → Option ℕ → Arms → Option Nest
  arms_nest outer inner held NoArm = None
  arms_nest outer inner held (AndArm arm arms) = first (nest outer inner held arm) (arms_nest outer inner held arms)

-- the first in the processes
abbrev pub nest_among : (outer inner : ℕ) → List Process → Option Nest
nest_among outer inner [] = None
nest_among outer inner (process ∷ processes) =
    first (nest outer inner None process.body) (nest_among outer inner processes)

-- the resource is one of these
abbrev pub IsAmong : List ℕ → ℕ → Type 0
IsAmong among r = (k : ℕ) × (slice_get among k ≡ Some r)

-- a hold of this resource stands inside one of these
abbrev pub IsInside : List Process → List ℕ → ℕ → Nest → Type 0
IsInside processes among r found = IsAmong among found.outer × (nest_among found.outer r processes ≡ Some found)

-- no hold of the resource in this place stands inside one of these
pub record IsFreeAt (processes : List Process) (among : List ℕ) (i : ℕ) : Type 0 where
  pub r : ℕ
  pub there : slice_get among i ≡ Some r
  pub free : (found : Nest) → IsInside processes among r found → ⊥

-- the resources are these and those that are left; where one of these is asked for, the resources around it are
-- before it, if they are among the resources
pub record IsBegun (processes : List Process) (resources order left : List ℕ) : Type 0 where
  pub all : IsPermutation resources (order ++ left)
  pub later : (outer inner : ℕ) (found : Nest) → nest_among outer inner processes ≡ Some found → IsAmong resources outer
      → place order inner < length order → place order outer < place order inner
