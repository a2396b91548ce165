-- Another claim of a job.
use Rattle.std.specs.Prelude.{ℕ, ◌<◌, ◌≤◌, Bool, false, List, slice_index_or, slice_set}
use Rattle.pb_base.specs.Banker.{BankerState, processes, resources, capital, claim, loan, row_of, members}
use Rattle.pb_base.specs.Banker.{Finishes, IsWellFormed, IsSafe, IsLargestStuck}
use Rattle.pb_banker.specs.declared.reason.ClaimSaid.{ClaimSaid}
use Rattle.pb_banker.specs.declared.reason.ClaimSaid.TheVariants.{Changed, Rest}

-- the state in which p has this claim on r
abbrev pub with_claim : BankerState → (p r amount : ℕ) → BankerState
with_claim s p r amount = record s { claims = slice_set s.claims p (slice_set (row_of s.claims p) r amount) }

-- what is said of another claim of p on r: it is changed, since the state with it is safe; or the largest set of slots of
-- which none could finish with it
abbrev pub SaysOfClaim : BankerState → (p r amount : ℕ) → ClaimSaid → Type 0
SaysOfClaim s p r amount Changed = IsSafe (with_claim s p r amount)
SaysOfClaim s p r amount (Rest slots) =
    (¬ IsSafe (with_claim s p r amount))
    × IsLargestStuck (with_claim s p r amount) (members (with_claim s p r amount) (λ q. slice_index_or slots q false))

-- the state after it: p has the claim exactly if the state with it is safe
abbrev pub state_claimed : BankerState → (p r amount : ℕ) → ClaimSaid → BankerState
state_claimed s p r amount Changed = with_claim s p r amount
state_claimed s p r amount (Rest slots) = s

-- ---- laws

-- with a smaller claim the same order finishes
abbrev pub FewerClaimsStaySafe : Type 0
FewerClaimsStaySafe =
    (s : BankerState) → IsWellFormed s → (p r amount : ℕ) → p < processes s → r < resources s → amount ≤ claim s p r
    → (order : List ℕ) → Finishes s order → Finishes (with_claim s p r amount) order

-- a smaller claim is always allowed in a safe state
abbrev pub SmallerClaimIsAllowed : Type 0
SmallerClaimIsAllowed =
    (s : BankerState) → IsWellFormed s → IsSafe s → (p r amount : ℕ) → p < processes s → r < resources s → amount ≤ claim s p r
    → IsSafe (with_claim s p r amount)
