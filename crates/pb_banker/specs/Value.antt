-- What a contract sees of a banker.
use Rattle.std.specs.Prelude.{ℕ, List, length, replicate}
use Rattle.pb_base.specs.Banker.{BankerState}

-- the state; the order that the banker tries first, and how many processes its last `ask` compared, which are
-- not part of the state
pub record BankerValue : Type 0 where
  pub state : BankerState
  pub kept_order : List ℕ
  pub looked : ℕ

-- the start: nothing is lent
abbrev pub start_state : List ℕ → List (List ℕ) → BankerState
start_state capital claims = record {
  capital = capital;
  claims = claims;
  loans = replicate (length claims) (replicate (length capital) 0);
}

-- what was saved of a lender: the loans of each process; and for a banker the kept order and `looked`
pub record LoansValue : Type 0 where
  pub loans : List (List ℕ)
  pub order : List ℕ
  pub looked : ℕ

-- what is saved of a banker
abbrev pub saved_of : BankerValue → LoansValue
saved_of b = record { loans = b.state.loans; order = b.kept_order; looked = b.looked }

-- the banker with what was saved, under its own capital and claims
abbrev pub restored : BankerValue → LoansValue → BankerValue
restored b saved = record {
  state = record b.state { loans = saved.loans };
  kept_order = saved.order;
  looked = saved.looked;
}
