-- How much of each resource the claims need.
use Rattle.std.specs.Prelude.{◌↔◌, ℕ, zero, suc, ◌-◌, ◌<◌, ◌≤◌, cond, max, nat_lt, List, [], ◌∷◌, ◌++◌, length, slice_index, sum_by}
use Rattle.std.specs.List.{range_with_len}
use Rattle.pb_base.specs.Banker.{cell}
use Rattle.pb_base.specs.Steppers.{Table}
use Rattle.pb_claims.specs.Fits.{FitCapital}

-- the greatest claim on a resource, 0 if there is none
abbrev pub least_capital : Table → ℕ → ℕ
least_capital [] r = 0
least_capital (row ∷ claims) r = max (slice_index row r) (least_capital claims r)

-- the sum over all processes of their claims on a resource
abbrev pub free_capital : Table → ℕ → ℕ
free_capital claims r = sum_by (λ p. cell claims p r) (range_with_len 0 (length claims))

-- there is enough of a resource for all claims at once
abbrev pub IsFree : Table → List ℕ → ℕ → Type 0
IsFree claims capital r = free_capital claims r ≤ slice_index capital r

-- how much of a resource is lacking for all claims at once
abbrev pub lack : Table → List ℕ → ℕ → ℕ
lack claims capital r = free_capital claims r - slice_index capital r

-- there is enough of each resource for all claims at once
abbrev pub AllFree : Table → List ℕ → Type 0
AllFree claims capital = (r : ℕ) → r < length capital → IsFree claims capital r

-- the first of the resources of which most is lacking
pub record IsBottleneck (claims : Table) (capital : List ℕ) (r : ℕ) : Type 0 where
  pub resource : r < length capital
  pub lacking : 0 < lack claims capital r
  pub most : (other : ℕ) → other < length capital → lack claims capital other ≤ lack claims capital r
  pub first : (earlier : ℕ) → earlier < r → lack claims capital earlier < lack claims capital r

-- of the first n resources those of which there is not enough for all claims at once, in their order
abbrev pub scarce_below : Table → List ℕ → ℕ → List ℕ
scarce_below claims capital zero = []
scarce_below claims capital (suc n) =
    scarce_below claims capital n ++ cond (nat_lt 0 (lack claims capital n)) (n ∷ []) []

-- the resources of which there is not enough for all claims at once, in the order of their declarations
abbrev pub scarce : Table → List ℕ → List ℕ
scarce claims capital = scarce_below claims capital (length capital)

-- a text is accepted exactly if the capital of each resource is at least the least
abbrev pub LeastCapitalDecides : Type 0
LeastCapitalDecides =
    (claims : Table) (capital : List ℕ)
    → (FitCapital claims capital
    ↔ ((r : ℕ) → r < length capital → least_capital claims r ≤ slice_index capital r))
