-- Requests that are served in turn.
use Rattle.std.specs.Prelude.{◌≡◌, ◌<◌, ◌⊎◌, ℕ, List, [], ◌∷◌, ◌++◌}
use Rattle.pb_base.specs.declared.pair.Pair.{Pair}
use Rattle.pb_base.specs.Banker.{BankerState, IsAllowed, IsOverClaim, processes, resources, with_loan}
use Rattle.pb_banker.specs.declared.answer.Answer.{Answer}
use Rattle.pb_banker.specs.declared.answer.Answer.TheVariants.{Granted, NotNow, OverClaim}
use Rattle.pb_example_banker.specs.declared.Request.{Request}

-- what a request asks for
abbrev pub asked : Request → List Pair
asked r = record { resource = r.device; amount = r.amount } ∷ []

-- its job and its device are there
pub record IsKnown (s : BankerState) (r : Request) : Type 0 where
  pub job : r.job < processes s
  pub device : r.device < resources s

-- it can never be granted: its job or its device is not there, or the job never claimed so much
abbrev pub IsHopeless : BankerState → Request → Type 0
IsHopeless s r = (IsKnown s r → ⊥) ⊎ IsOverClaim s r.job (asked r)

-- the answer to a request, and the state after it
abbrev pub IsAnswer : BankerState → Request → Answer → BankerState → Type 0
IsAnswer s r Granted next =
    IsKnown s r × IsAllowed s r.job (asked r) × (next ≡ with_loan s r.job (asked r))
IsAnswer s r NotNow next =
    IsKnown s r × (IsOverClaim s r.job (asked r) → ⊥) × (IsAllowed s r.job (asked r) → ⊥) × (next ≡ s)
IsAnswer s r OverClaim next = IsHopeless s r × (next ≡ s)

-- from the first state on each request in turn is granted exactly if it is allowed then, and waits unless it
-- is hopeless; the lists have those that were granted, that wait and that are hopeless, each in the order of
-- the requests
pub data Serves (first : BankerState) : (requests granted waiting hopeless : List Request) → BankerState → Type 0 where
  none : Serves first [] [] [] [] first
  grants : (requests granted waiting hopeless : List Request) (r : Request) (s : BankerState)
      → Serves first requests granted waiting hopeless s → IsKnown s r → IsAllowed s r.job (asked r)
      → Serves first (requests ++ r ∷ []) (granted ++ r ∷ []) waiting hopeless (with_loan s r.job (asked r))
  waits : (requests granted waiting hopeless : List Request) (r : Request) (s : BankerState)
      → Serves first requests granted waiting hopeless s → IsKnown s r
      → (IsOverClaim s r.job (asked r) → ⊥) → (IsAllowed s r.job (asked r) → ⊥)
      → Serves first (requests ++ r ∷ []) granted (waiting ++ r ∷ []) hopeless s
  refuses : (requests granted waiting hopeless : List Request) (r : Request) (s : BankerState)
      → Serves first requests granted waiting hopeless s → IsHopeless s r
      → Serves first (requests ++ r ∷ []) granted waiting (hopeless ++ r ∷ []) s
