-- What the tables of a banker say: the state that they hold.
use Rattle.std.specs.Prelude.{◌≡◌, ℕ, zero, suc, ◌<◌, ◌≤◌, List, [], ◌∷◌, length, take, drop, map, filter}
use Rattle.std.specs.Prelude.{slice_index, slice_index_or, slice_set, Bool, false, IsTrue}
use Rattle.std.specs.List.{range_with_len}
use Rattle.pb_base.specs.declared.limits.TheConstants.{MAX_PROCESSES}
use Rattle.pb_base.specs.Banker.{BankerState, resources, remaining_claim, cash, row_of, IsWellFormed}
use Rattle.pb_base.specs.declared.pair.Pair.{Pair}
use Rattle.pb_base.specs.Bundle.{lend, give_back}
use Rattle.pb_banker.specs.declared.accounts.Accounts.{Accounts}

-- the first p rows of a table, each cut to its first r columns
abbrev pub corner : ℕ → ℕ → List (List ℕ) → List (List ℕ)
corner p r table = map (λ row. take r row) (take p table)

-- this number of rows of one width, cut one after another from a list of amounts
abbrev pub rows_from : (rows width : ℕ) → List ℕ → List (List ℕ)
rows_from zero width amounts = []
rows_from (suc rows) width amounts = take width amounts ∷ rows_from rows width (drop width amounts)

-- the state in the tables: the part of them that is in use
abbrev pub state_of : Accounts → BankerState
state_of a =
    record {
      capital = take a.resources a.capital;
      claims = corner a.processes a.resources a.claims;
      loans = corner a.processes a.resources a.loans;
    }

-- the remaining claim of p is within the amounts
abbrev pub FitsIn : BankerState → List ℕ → ℕ → Type 0
FitsIn s available p = (r : ℕ) → r < resources s → remaining_claim s p r ≤ slice_index available r

-- the tables hold a well-formed state and its cash
pub record IsSound (a : Accounts) : Type 0 where
  pub capital_width : a.resources ≤ length a.capital
  pub claims_length : a.processes ≤ length a.claims
  pub loans_length : a.processes ≤ length a.loans
  pub few : a.processes ≤ MAX_PROCESSES
  pub well_formed : IsWellFormed (state_of a)
  pub cash : (r : ℕ) → r < a.resources → slice_index a.cash r ≡ cash (state_of a) r

-- p waits and fits, and none of less number does both
pub record IsFirstFitting (s : BankerState) (waiting : List Bool) (available : List ℕ) (p : ℕ) : Type 0 where
  pub waits : IsTrue (slice_index_or waiting p false)
  pub fits : FitsIn s available p
  pub first : (q : ℕ) → q < p → IsTrue (slice_index_or waiting q false) → ¬ FitsIn s available q

-- how many of the first n wait
abbrev pub count_waiting : ℕ → List Bool → ℕ
count_waiting n waiting = length (filter (λ p. slice_index_or waiting p false) (range_with_len 0 n))

-- the tables after the pairs are lent to p
abbrev pub lent_tables : Accounts → ℕ → List Pair → Accounts
lent_tables a p pairs =
    record a { loans = slice_set a.loans p (lend (row_of a.loans p) pairs); cash = give_back a.cash pairs }
