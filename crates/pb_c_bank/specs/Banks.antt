-- What a bank in a caller's memory holds, and what its calls say.
use Rattle.std.specs.Prelude.{All, ◌≡◌, ◌≢◌, ◌<◌, ◌≤◌, ℕ, suc, Bool, false, cond, not, nat_eq, List, [], ◌∷◌, length, map}
use Rattle.std.specs.Prelude.{replicate, slice_index, slice_index_or, slice_set}
use Rattle.pb_base.specs.declared.limits.TheConstants.{MAX_AMOUNT, MAX_PROCESSES, MAX_RESOURCES}
use Rattle.pb_base.specs.declared.pair.Pair.{Pair}
use Rattle.pb_base.specs.Banker.{BankerState, processes, resources, loan, without_loan}
use Rattle.pb_base.specs.Banker.{without_loans, IsLeastFirst, IsSafe}
use Rattle.pb_banker.specs.Accounts.{state_of, IsSound}
use Rattle.pb_banker.specs.Asking.{Answers, state_after}
use Rattle.pb_banker.specs.Value.{start_state}
use Rattle.pb_banker.specs.Jobs.{BankValue, HasJob, IsKept, SaysOfJoining, SaysWhy, left, value_of}
use Rattle.pb_banker.specs.declared.answer.Answer.{Answer}
use Rattle.pb_banker.specs.declared.answer.Answer.TheVariants.{Granted, NotNow, OverClaim}
use Rattle.pb_banker.specs.declared.reason.Joined.{Joined}
use Rattle.pb_banker.specs.declared.reason.Joined.TheVariants.{In, OverCapital, Full}
use Rattle.pb_banker.specs.declared.reason.Reason.{Reason}
use Rattle.pb_banker.specs.declared.reason.Reason.TheVariants as reason
use Rattle.pb_c_bank.specs.Tables.{AreSeated}
use Rattle.pb_c_bank.specs.declared.bank.Bank.{Bank}
use Rattle.pb_c_bank.specs.declared.bank.Why.{Why}

-- ---- a bank

-- a byte that is set: any but 0
abbrev pub is_set : ℕ → Bool
is_set n = not (nat_eq n 0)

-- bytes as flags: any but 0 is set
abbrev pub flags : List ℕ → List Bool
flags bytes = map is_set bytes

-- the state that the tables of a bank hold
abbrev pub state : Bank → BankerState
state b = state_of b.accounts

-- the state, and which slots have a job
abbrev pub value : Bank → BankValue
value b = value_of b.accounts (flags b.jobs)

-- the tables are sound, all can finish in the order that is kept, a job is in a slot that has a row, and a slot
-- that no job has claims nothing
abbrev pub IsBank : Bank → Type 0
IsBank b = IsKept b.accounts b.order (flags b.jobs)

-- ---- a new bank

-- 1 to 16 resources, with not too much of each
pub record IsCapital (capital : List ℕ) : Type 0 where
  pub some : 0 < length capital
  pub few : length capital ≤ MAX_RESOURCES
  pub small : All (λ amount. amount ≤ MAX_AMOUNT) capital

-- a bank with this capital and no jobs
abbrev pub opened : List ℕ → BankValue
opened capital = record { state = start_state capital []; used = replicate MAX_PROCESSES false }

-- what is said of a new bank: it is made; or the numbers are no capital, and the memory is as it was
pub record SaysOfOpening (capital : List ℕ) (said : ℕ) (old new : Bank) : Type 0 where
  pub made : IsCapital capital → (said ≡ 0) × IsBank new × (value new ≡ opened capital)
  pub refused : ¬ IsCapital capital → (said ≡ 6) × (new ≡ old)

-- a call that does nothing leaves each byte of the bank
abbrev pub Stays : (said : ℕ) → (old new : Bank) → Type 0
Stays said old new = said ≢ 0 → new ≡ old

-- the tables of memory that comes from anywhere are those of a bank, of at least one resource
abbrev pub AreTables : Bank → Type 0
AreTables b = (0 < b.accounts.resources) × IsSound b.accounts × AreSeated b.accounts (flags b.jobs)

-- what is said of memory that comes from anywhere: it is a bank now, with the state and the jobs that its tables
-- had; or it is as it was, and its tables are not those of a bank or not all can finish
pub record SaysOfAdopting (said : ℕ) (old new : Bank) : Type 0 where
  pub made : AreTables old → IsSafe (state old) → (said ≡ 0) × IsBank new × (value new ≡ value old)
  pub unsafe_loans : AreTables old → ¬ IsSafe (state old) → (said ≡ 10) × (new ≡ old)
  pub unsound : ¬ AreTables old → (said ≡ 6) × (new ≡ old)

-- ---- coming and going

-- the number that is said of a newcomer, and what stands beside it: his slot, or the resource
abbrev pub joined_number : Joined → ℕ
joined_number (In p) = 0
joined_number (OverCapital r) = 7
joined_number Full = 8

abbrev pub joined_place : Joined → ℕ
joined_place (In p) = p
joined_place (OverCapital r) = r
joined_place Full = 0

-- what is said of a newcomer, and the bank after it: what the banker says; or 3, if there is not a claim for
-- each resource, and the bank stays
pub record SaysOfEntering (b : BankValue) (claims : List ℕ) (said at : ℕ) (next : BankValue) : Type 0 where
  pub answered : length claims ≡ resources b.state → (joined : Joined) × SaysOfJoining b claims joined next
      × (said ≡ joined_number joined) × (at ≡ joined_place joined)
  pub refused : length claims ≢ resources b.state → (said ≡ 3) × (next ≡ b)

-- what is said of a job that leaves, and the bank after it
pub record SaysOfLeaving (b : BankValue) (p said : ℕ) (next : BankValue) : Type 0 where
  pub gone : HasJob b p → (said ≡ 0)
      × (next ≡ record { state = left b.state p; used = slice_set b.used p false })
  pub refused : ¬ HasJob b p → (said ≡ 3) × (next ≡ b)

-- ---- requests

-- a pair for each amount, from this resource on
abbrev pub pairs_from : ℕ → List ℕ → List Pair
pairs_from r [] = []
pairs_from r (amount ∷ amounts) = record { resource = r; amount = amount } ∷ pairs_from (suc r) amounts

-- the job is there, and there is an amount for each resource, of which there are some
pub record IsRequest (b : BankValue) (p : ℕ) (amounts : List ℕ) : Type 0 where
  pub job : HasJob b p
  pub each : length amounts ≡ resources b.state
  pub some : 0 < length amounts

-- the number of a banker's answer
abbrev pub number_of : Answer → ℕ
number_of Granted = 0
number_of NotNow = 1
number_of OverClaim = 2

-- the bank with another state
abbrev pub with_state : BankValue → BankerState → BankValue
with_state b s = record { state = s; used = b.used }

-- what is said of a request, and the bank after it: the number of the banker's answer; or 3, and the bank stays
pub record SaysOfAsking (b : BankValue) (p : ℕ) (amounts : List ℕ) (said : ℕ) (next : BankValue) : Type 0 where
  pub answered : IsRequest b p amounts → (answer : Answer) × Answers b.state p (pairs_from 0 amounts) answer
      × (said ≡ number_of answer) × (next ≡ with_state b (state_after b.state p (pairs_from 0 amounts) answer))
  pub refused : ¬ IsRequest b p amounts → (said ≡ 3) × (next ≡ b)

-- the job holds each of these amounts
abbrev pub Holds : BankerState → ℕ → List ℕ → Type 0
Holds s p amounts = (r : ℕ) → r < length amounts → slice_index amounts r ≤ loan s p r

-- what is said of amounts that are given back, and the bank after it
pub record SaysOfGiving (b : BankValue) (p : ℕ) (amounts : List ℕ) (said : ℕ) (next : BankValue) : Type 0 where
  pub given : IsRequest b p amounts → Holds b.state p amounts
      → (said ≡ 0) × (next ≡ with_state b (without_loan b.state p (pairs_from 0 amounts)))
  pub not_held : IsRequest b p amounts → ¬ Holds b.state p amounts → (said ≡ 4) × (next ≡ b)
  pub refused : ¬ IsRequest b p amounts → (said ≡ 3) × (next ≡ b)

-- what is said of a job that gives back all that it holds, and the bank after it
pub record SaysOfDropping (b : BankValue) (p said : ℕ) (next : BankValue) : Type 0 where
  pub dropped : HasJob b p → (said ≡ 0) × (next ≡ with_state b (without_loans b.state p))
  pub refused : ¬ HasJob b p → (said ≡ 3) × (next ≡ b)

-- ---- what can be asked of a bank

-- how many are written, and what: each slot that has a row, in the order in which each next one is the first
-- that fits
abbrev pub SaysOfOrder : BankerState → ℕ → List ℕ → Type 0
SaysOfOrder s said order = (said ≡ processes s) × IsLeastFirst s order

-- the number that is said of a reason, and the resource that stands beside it
abbrev pub reason_number : Reason → ℕ
reason_number reason.Allowed = 0
reason_number (reason.OverClaim r) = 2
reason_number (reason.OverCash r) = 9
reason_number (reason.Rest slots) = 1

abbrev pub reason_resource : Reason → ℕ
reason_resource reason.Allowed = 0
reason_resource (reason.OverClaim r) = r
reason_resource (reason.OverCash r) = r
reason_resource (reason.Rest slots) = 0

-- the bytes of flags: 1 for each slot of a row that is in the list, else 0
pub record AreMarked (n : ℕ) (slots : List Bool) (bytes : List ℕ) : Type 0 where
  pub rows : (p : ℕ) → p < n → slice_index_or bytes p 0 ≡ cond (slice_index_or slots p false) 1 0
  pub behind : (p : ℕ) → n ≤ p → slice_index_or bytes p 0 ≡ 0

-- no slot is marked
abbrev pub no_marks : List ℕ
no_marks = replicate MAX_PROCESSES 0

-- the slots that could not finish are marked, and none for another reason
abbrev pub MarksRest : BankerState → Reason → List ℕ → Type 0
MarksRest s (reason.Rest slots) bytes = AreMarked (processes s) slots bytes
MarksRest s _ bytes = bytes ≡ no_marks

-- why a request is granted or not: the reason that the banker gives; or 3, if it is none, and nothing beside it
pub record SaysOfReason (b : BankValue) (p : ℕ) (amounts : List ℕ) (said : ℕ) (why : Why) : Type 0 where
  pub answered : IsRequest b p amounts → (reason : Reason) × SaysWhy b.state p (pairs_from 0 amounts) reason
      × (said ≡ reason_number reason) × (why.resource ≡ reason_resource reason)
      × MarksRest b.state reason why.rest
  pub refused : ¬ IsRequest b p amounts → (said ≡ 3) × (why.resource ≡ 0) × (why.rest ≡ no_marks)
