-- What contracts see of a lender: the state that it knows, and how it decides.
use Rattle.std.specs.Prelude.{ℕ, List, ⊤}
use Rattle.pb_base.specs.Banker.{BankerState, Finishes}
use Rattle.pb_base.specs.declared.lending.Lending.{Lending}
use Rattle.pb_base.specs.declared.lending.Lending.TheVariants.{ByBanker, ByCash}
use Rattle.pb_banker.specs.declared.lender.Lender.{Lender}
use Rattle.pb_banker.specs.declared.lender.Lender.TheVariants as by

-- capital, claims and loans
abbrev pub lender_state : Lender → BankerState
lender_state (by.Banker b) = b.state
lender_state (by.Till t) = t

-- how it decides on a request
abbrev pub lending_by : Lender → Lending
lending_by (by.Banker b) = ByBanker
lending_by (by.Till t) = ByCash

-- the state with other loans
abbrev pub with_loans : BankerState → List (List ℕ) → BankerState
with_loans s loans = record { capital = s.capital; claims = s.claims; loans = loans }

-- the order serves this lender in this state: the banker needs one that finishes
abbrev pub IsOrderOf : Lending → BankerState → List ℕ → Type 0
IsOrderOf ByBanker s order = Finishes s order
IsOrderOf ByCash s order = ⊤
