-- A bank: jobs come and go, each in a slot, which is a process of the banker's state.
use Rattle.std.specs.Prelude.{◌≡◌, ℕ, suc, ◌+◌, ◌<◌, ◌≤◌, Bool, true, false, IsTrue, List, ◌∷◌, ◌++◌, length, take, drop}
use Rattle.std.specs.Prelude.{replicate, slice_get, slice_index, slice_index_or, slice_set, Some, All}
use Rattle.pb_base.specs.declared.limits.TheConstants.{MAX_PROCESSES}
use Rattle.pb_base.specs.declared.pair.Pair.{Pair}
use Rattle.pb_base.specs.Banker.{BankerState, processes, resources, capital, claim, loan, cash, members, with_loan}
use Rattle.pb_base.specs.Banker.{Finishes, IsWellFormed, IsSafe, IsAllowed, IsWithinClaim, IsWithinCash, IsLargestStuck}
use Rattle.pb_banker.specs.declared.accounts.Accounts.{Accounts}
use Rattle.pb_banker.specs.declared.reason.Joined.{Joined}
use Rattle.pb_banker.specs.declared.reason.Joined.TheVariants.{In, OverCapital, Full}
use Rattle.pb_banker.specs.declared.reason.Reason.{Reason}
use Rattle.pb_banker.specs.declared.reason.Reason.TheVariants.{Allowed, OverClaim, OverCash, Rest}
use Rattle.pb_banker.specs.Accounts.{state_of, IsSound}

-- the state, with a row for each slot up to the highest that was used; and which slots have a job
pub record BankValue : Type 0 where
  pub state : BankerState
  pub used : List Bool

-- a job has slot p
abbrev pub IsUsed : List Bool → ℕ → Type 0
IsUsed used p = IsTrue (slice_index_or used p false)

-- the bank has a job in slot p
abbrev pub HasJob : BankValue → ℕ → Type 0
HasJob b p = IsUsed b.used p

-- ---- coming and going

-- the table with another row in this place; after the last row it grows
abbrev pub put_row : List (List ℕ) → ℕ → List ℕ → List (List ℕ)
put_row table p row = take p table ++ row ∷ drop (suc p) table

-- the state in which p has these claims, and holds nothing
abbrev pub joined : BankerState → ℕ → List ℕ → BankerState
joined s p claims =
    record s {
      claims = put_row s.claims p claims;
      loans = put_row s.loans p (replicate (resources s) 0);
    }

-- the state in which p holds nothing, and may ask for nothing
abbrev pub left : BankerState → ℕ → BankerState
left s p = joined s p (replicate (resources s) 0)

-- a newcomer: nobody has the slot p, or he who has it holds nothing; and the claims are within the capital
pub record MayJoin (s : BankerState) (p : ℕ) (claims : List ℕ) : Type 0 where
  pub slot : p ≤ processes s
  pub room : p < MAX_PROCESSES
  pub width : length claims ≡ resources s
  pub fits : (r : ℕ) → r < resources s → slice_index claims r ≤ capital s r
  pub nothing : (r : ℕ) → r < resources s → loan s p r ≡ 0

-- a newcomer keeps the state safe, since he can be last
abbrev pub NewcomersStaySafe : Type 0
NewcomersStaySafe =
    (s : BankerState) → IsWellFormed s → (p : ℕ) (claims : List ℕ) → MayJoin s p claims → IsSafe s
    → IsWellFormed (joined s p claims) × IsSafe (joined s p claims)

-- no claim is more than the capital
abbrev pub IsWithinCapital : BankerState → List ℕ → Type 0
IsWithinCapital s claims = (r : ℕ) → r < resources s → slice_index claims r ≤ capital s r

-- the first resource of which the claim is more than the capital
pub record IsFirstOver (s : BankerState) (claims : List ℕ) (r : ℕ) : Type 0 where
  pub there : r < resources s
  pub over : capital s r < slice_index claims r
  pub first : (q : ℕ) → q < r → slice_index claims q ≤ capital s q

-- the first slot that no job has
pub record IsFirstFree (used : List Bool) (p : ℕ) : Type 0 where
  pub there : p < MAX_PROCESSES
  pub free : ¬ IsUsed used p
  pub first : (q : ℕ) → q < p → IsUsed used q

-- the answer to a job that wants to join, and the bank after it: he is in the first free slot; or a claim of
-- his is over the capital, or there are as many jobs as there can be, and nothing changes
abbrev pub SaysOfJoining : BankValue → List ℕ → Joined → BankValue → Type 0
SaysOfJoining b claims (In p) next =
    IsWithinCapital b.state claims × IsFirstFree b.used p
    × (next ≡ record { state = joined b.state p claims; used = slice_set b.used p true })
SaysOfJoining b claims (OverCapital r) next = IsFirstOver b.state claims r × (next ≡ b)
SaysOfJoining b claims Full next =
    IsWithinCapital b.state claims × ((p : ℕ) → p < MAX_PROCESSES → HasJob b p) × (next ≡ b)

-- ---- why a request is granted or not

-- r is the resource of the first pair of which this does not hold
pub record IsFirstWithout (P : Pair → Type 0) (pairs : List Pair) (r : ℕ) : Type 0 where
  pub place : ℕ
  pub pair : Pair
  pub at : slice_get pairs place ≡ Some pair
  pub before : All P (take place pairs)
  pub fails : ¬ P pair
  pub is : r ≡ pair.resource

-- the reason: it is allowed; or the first pair over the claim, or over the cash; or, if claim and cash suffice,
-- the largest set of slots of which none could finish
abbrev pub SaysWhy : BankerState → ℕ → List Pair → Reason → Type 0
SaysWhy s p pairs Allowed = IsAllowed s p pairs
SaysWhy s p pairs (OverClaim r) =
    IsFirstWithout (λ pair. loan s p pair.resource + pair.amount ≤ claim s p pair.resource) pairs r
SaysWhy s p pairs (OverCash r) =
    IsWithinClaim s p pairs × IsFirstWithout (λ pair. pair.amount ≤ cash s pair.resource) pairs r
SaysWhy s p pairs (Rest slots) =
    IsWithinClaim s p pairs × IsWithinCash s pairs × ¬ IsSafe (with_loan s p pairs)
    × IsLargestStuck (with_loan s p pairs) (members (with_loan s p pairs) (λ q. slice_index_or slots q false))

-- the state after a loan is set up: it is made exactly if it is allowed
abbrev pub state_held : BankerState → ℕ → List Pair → Reason → BankerState
state_held s p pairs Allowed = with_loan s p pairs
state_held s p pairs (OverClaim r) = s
state_held s p pairs (OverCash r) = s
state_held s p pairs (Rest slots) = s

-- ---- what a bank keeps

-- the tables are sound, all finish in the order that is kept, a job is in a slot that has a row, and a slot
-- that no job has claims nothing
pub record IsKept (a : Accounts) (order : List ℕ) (used : List Bool) : Type 0 where
  pub sound : IsSound a
  pub finishes : Finishes (state_of a) (take a.processes order)
  pub long : MAX_PROCESSES ≤ length used
  pub rows : (p : ℕ) → IsUsed used p → p < a.processes
  pub free : (p r : ℕ) → p < a.processes → ¬ IsUsed used p → r < a.resources → claim (state_of a) p r ≡ 0

-- what contracts see of a bank with these tables: their state, and which slots have a job
abbrev pub value_of : Accounts → List Bool → BankValue
value_of a used = record { state = state_of a; used = used }
