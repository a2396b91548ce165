-- What may be left out of a search after a loan, since it is the asker who has to fit.
use Rattle.std.specs.Prelude.{◌≡◌, ℕ, ◌+◌, ◌<◌, ◌≤◌, Bool, false, not, nat_eq, List, ◌++◌, length, take, filter, All}
use Rattle.std.specs.Prelude.{slice_index, slice_index_or}
use Rattle.std.specs.List.Sorted.{IsPermutation}
use Rattle.pb_base.specs.declared.limits.TheConstants.{MAX_PROCESSES}
use Rattle.pb_base.specs.declared.pair.Pair.{Pair}
use Rattle.pb_base.specs.Bundle.{IsDistinct}
use Rattle.pb_base.specs.Banker.{BankerState, processes, resources, remaining_claim, cash, held_by, everyone, members}
use Rattle.pb_base.specs.Banker.{with_loan, Finishes, IsWellFormed, IsWithinClaim, IsWithinCash}
use Rattle.pb_banker.specs.declared.accounts.Search.{Search}
use Rattle.pb_banker.specs.Orders.{FitInTurn}

-- an order without p: the others as they were
abbrev pub others_than : ℕ → List ℕ → List ℕ
others_than p order = filter (λ q. not (nat_eq q p)) order

-- ---- laws

-- claim and cash suffice for a loan to p
pub record IsCovered (s : BankerState) (p : ℕ) (pairs : List Pair) : Type 0 where
  pub process : p < processes s
  pub distinct : IsDistinct pairs
  pub below : All (λ pair. pair.resource < resources s) pairs
  pub within_claim : IsWithinClaim s p pairs
  pub within_cash : IsWithinCash s pairs

-- if some fit in turn after a loan, the asker among them, then all finish in the order of these, and after them all
-- others as they were in an order in which all finished before the loan
abbrev pub AskerIsEnough : Type 0
AskerIsEnough =
    (s : BankerState) → IsWellFormed s → (order : List ℕ) → Finishes s order
    → (p : ℕ) (pairs : List Pair) → IsCovered s p pairs
    → (found : List ℕ) (others : ℕ → Bool) → others p ≡ false
    → IsPermutation (everyone s) (found ++ filter others order) → FitInTurn (with_loan s p pairs) found
    → Finishes (with_loan s p pairs) (found ++ filter others order)

-- of resource r each of the list can borrow all that it may still ask for, once those before it have given back
abbrev pub FitBy : BankerState → List ℕ → ℕ → Type 0
FitBy s order r =
    (k : ℕ) → k < length order → remaining_claim s (slice_index order k) r ≤ cash s r + held_by s (take k order) r

-- an order in which all finished before a loan is still one if those before the asker fit by each resource of which
-- something was lent
abbrev pub PlaceIsEnough : Type 0
PlaceIsEnough =
    (s : BankerState) → IsWellFormed s → (order : List ℕ) → Finishes s order
    → (place : ℕ) → place < length order → (pairs : List Pair) → IsCovered s (slice_index order place) pairs
    → All (λ pair. 0 < pair.amount → FitBy (with_loan s (slice_index order place) pairs) (take place order) pair.resource) pairs
    → Finishes (with_loan s (slice_index order place) pairs) order

-- ---- definitions of private functions

-- the state is one in which all finished in the order, after a loan to p for which claim and cash sufficed
pub record IsLentFrom (s : BankerState) (p : ℕ) (pairs : List Pair) (order : List ℕ) : Type 0 where
  pub before : BankerState
  pub well_formed : IsWellFormed before
  pub finishes : Finishes before order
  pub covered : IsCovered before p pairs
  pub is : s ≡ with_loan before p pairs

-- those found fit in turn, and all others wait
pub record IsFound (s : BankerState) (found : Search) : Type 0 where
  pub few : found.count ≤ MAX_PROCESSES
  pub places : length found.order ≡ MAX_PROCESSES
  pub flags : length found.waiting ≡ MAX_PROCESSES
  pub parts : IsPermutation (everyone s)
      (take found.count found.order ++ members s (λ p. slice_index_or found.waiting p false))
  pub fits : FitInTurn s (take found.count found.order)

-- the amounts are the cash and the loans of those found
abbrev pub IsLeftBy : BankerState → Search → List ℕ → Type 0
IsLeftBy s found amounts =
    (r : ℕ) → r < resources s → slice_index amounts r ≡ cash s r + held_by s (take found.count found.order) r
