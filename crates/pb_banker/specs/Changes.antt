-- Another capital of a resource.
use Rattle.std.specs.Prelude.{ℕ, ◌<◌, ◌≤◌, Bool, false, IsTrue, List, All, ◌↔◌, slice_index_or, slice_set}
use Rattle.pb_base.specs.declared.pair.Pair.{Pair}
use Rattle.pb_base.specs.Bundle.{IsDistinct}
use Rattle.pb_base.specs.Banker.{BankerState, processes, resources, capital, claim, everyone, held_by, members}
use Rattle.pb_base.specs.Banker.{Finishes, IsWellFormed, IsSafe, IsAllowed, IsLargestStuck}
use Rattle.pb_banker.specs.declared.reason.CapitalSaid.{CapitalSaid}
use Rattle.pb_banker.specs.declared.reason.CapitalSaid.TheVariants.{Changed, Claimed, OverCash, Rest}

-- the state with this capital of resource r
abbrev pub with_capital : BankerState → (r amount : ℕ) → BankerState
with_capital s r amount = record s { capital = slice_set s.capital r amount }

-- each claim on r is within the amount
abbrev pub AreClaimsWithin : BankerState → (r amount : ℕ) → Type 0
AreClaimsWithin s r amount = (p : ℕ) → p < processes s → claim s p r ≤ amount

-- all loans of r together are within the amount
abbrev pub AreLoansWithin : BankerState → (r amount : ℕ) → Type 0
AreLoansWithin s r amount = held_by s (everyone s) r ≤ amount

-- the amount may be the capital of r: each claim on r and all loans of it are within it, and the state with it is safe
pub record IsCapitalAllowed (s : BankerState) (r amount : ℕ) : Type 0 where
  pub claims : AreClaimsWithin s r amount
  pub loans : AreLoansWithin s r amount
  pub safe : IsSafe (with_capital s r amount)

-- the slots whose claim on r is over the amount, at least one
pub record AreClaimed (s : BankerState) (r amount : ℕ) (slots : List Bool) : Type 0 where
  pub over : (p : ℕ) → p < processes s → (IsTrue (slice_index_or slots p false) ↔ amount < claim s p r)
  pub one : ¬ AreClaimsWithin s r amount

-- what is said of another capital of r: it is changed; or these slots claim more; or, if none does, more is lent; or, if
-- claims and loans are within it, the largest set of slots of which none could finish with it
abbrev pub SaysOfCapital : BankerState → (r amount : ℕ) → CapitalSaid → Type 0
SaysOfCapital s r amount Changed = IsCapitalAllowed s r amount
SaysOfCapital s r amount (Claimed slots) = AreClaimed s r amount slots
SaysOfCapital s r amount OverCash = AreClaimsWithin s r amount × ¬ AreLoansWithin s r amount
SaysOfCapital s r amount (Rest slots) =
    AreClaimsWithin s r amount × AreLoansWithin s r amount × ¬ IsSafe (with_capital s r amount)
    × IsLargestStuck (with_capital s r amount) (members (with_capital s r amount) (λ q. slice_index_or slots q false))

-- the state after it: it has the capital exactly if that is allowed
abbrev pub state_changed : BankerState → (r amount : ℕ) → CapitalSaid → BankerState
state_changed s r amount Changed = with_capital s r amount
state_changed s r amount (Claimed slots) = s
state_changed s r amount OverCash = s
state_changed s r amount (Rest slots) = s

-- ---- laws

-- with more capital the same order finishes
abbrev pub MoreCapitalStaysSafe : Type 0
MoreCapitalStaysSafe =
    (s : BankerState) → IsWellFormed s → (r amount : ℕ) → r < resources s → capital s r ≤ amount
    → (order : List ℕ) → Finishes s order → Finishes (with_capital s r amount) order

-- with more capital all that was allowed is: so with less no more is
abbrev pub MoreCapitalAllowsMore : Type 0
MoreCapitalAllowsMore =
    (s : BankerState) → IsWellFormed s → (r amount : ℕ) → r < resources s → capital s r ≤ amount
    → (p : ℕ) (pairs : List Pair) → p < processes s → All (λ pair. pair.resource < resources s) pairs → IsDistinct pairs
    → IsAllowed s p pairs → IsAllowed (with_capital s r amount) p pairs

-- more capital is always allowed
abbrev pub MoreCapitalIsAllowed : Type 0
MoreCapitalIsAllowed =
    (s : BankerState) → IsWellFormed s → IsSafe s → (r amount : ℕ) → r < resources s → capital s r ≤ amount
    → IsCapitalAllowed s r amount
