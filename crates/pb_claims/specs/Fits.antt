-- When the capital is enough for every claim, and which claim is named if it is not.
use Rattle.std.specs.Prelude.{◌≡◌, ℕ, ◌<◌, ◌≤◌, List, length, slice_index}
use Rattle.pb_base.specs.Banker.{cell}
use Rattle.pb_base.specs.Steppers.{Table}
use Rattle.pb_claims.specs.declared.over_capital.OverCapital.{OverCapital}

-- every claim of process p is at most the capital
abbrev pub RowFits : Table → List ℕ → ℕ → Type 0
RowFits claims capital p = (r : ℕ) → r < length capital → cell claims p r ≤ slice_index capital r

-- every claim is at most the capital
abbrev pub FitCapital : Table → List ℕ → Type 0
FitCapital claims capital = (p : ℕ) → p < length claims → RowFits claims capital p

-- r is the first resource on which process p has a claim over the capital
pub record IsFirstInRow (claims : Table) (capital : List ℕ) (p r : ℕ) : Type 0 where
  pub resource : r < length capital
  pub over : slice_index capital r < cell claims p r
  pub first : (earlier : ℕ) → earlier < r → cell claims p earlier ≤ slice_index capital earlier

-- the named process is the first with a claim over the capital, the named resource its first; the named claim
-- and capital are theirs
pub record IsFirstOver (claims : Table) (capital : List ℕ) (named : OverCapital) : Type 0 where
  pub process : named.process < length claims
  pub first_process : (earlier : ℕ) → earlier < named.process → RowFits claims capital earlier
  pub first_resource : IsFirstInRow claims capital named.process named.resource
  pub claim : named.claim ≡ cell claims named.process named.resource
  pub capital_of : named.capital ≡ slice_index capital named.resource
