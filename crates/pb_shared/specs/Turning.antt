-- A turn: an arm goes on in the book itself, and nothing is lent.
use Rattle.std.specs.Prelude.{◌≡◌, ◌≢◌, ◌⊎◌, ℕ, ◌-◌, ◌<◌, ◌≤◌, ◌++◌, min, Some, None}
use Rattle.pb_base.specs.declared.pick.Pick.{Pick}
use Rattle.pb_base.specs.Steppers.{State}
use Rattle.pb_code.specs.Code.{CodeProcess}
use Rattle.pb_code.specs.Whole.{Code}
use Rattle.pb_history.specs.Entries.{silent_picks}
use Rattle.pb_machine.specs.Looks.{look_at}
use Rattle.pb_machine.specs.Steps.{MovesSilently}
use Rattle.pb_machine.specs.declared.look.Look.TheVariants as look
use Rattle.pb_shared.specs.Ledgers.{Ledger, HasOutcome, IsReady, Tries}
use Rattle.pb_shared.specs.Taking.{NoneReady}
use Rattle.pb_shared.specs.declared.answer.Answer.{Answer}
use Rattle.pb_shared.specs.declared.answer.Answer.TheVariants as answer
use Rattle.pb_shared.specs.declared.outcome.Outcome.{Outcome}

-- the book after silent picks of an arm that led here: they are in the trace, and so many fewer are left
abbrev pub went_on : Ledger → Pick → (made : ℕ) → State CodeProcess → Ledger
went_on s pick made next = record s { machine = next; entries = s.entries ++ silent_picks pick made; left = s.left - made }

-- an arm makes silent picks until it has made the most that it may, or the next is none; and if it may make
-- one more, its visible pick is tried
pub record GoesOn (code : Code) (s : Ledger) (pick : Pick) (most made : ℕ) (after : Ledger) : Type 0 where
  pub next : State CodeProcess
  pub came : Answer
  pub within : made ≤ most
  pub moves : MovesSilently code pick made s.machine next
  pub stops : made < most → look_at code next pick ≢ look.Silent
  pub ends : ((made < most) × Tries code (went_on s pick made next) pick came after)
      ⊎ ((made ≡ most) × (came ≡ answer.Silent) × (after ≡ went_on s pick made next))

-- a turn, of a book that has no outcome and picks left: a ready arm goes on, for at most the lesser of
-- quantum and picks left
abbrev pub TakesTurn : Code → Ledger → ℕ → ℕ → Ledger → Type 0
TakesTurn code s quantum made after =
    (pick : Pick) × HasOutcome s None × (0 < s.left) × IsReady code s pick × GoesOn code s pick (min quantum s.left) made after

-- no turn: no pick is left, no arm is ready, or there is an outcome; the book stays as it was
abbrev pub NoTurn : Code → Ledger → Ledger → Type 0
NoTurn code s after =
    ((s.left ≡ 0) ⊎ (NoneReady code s ⊎ ((outcome : Outcome) × HasOutcome s (Some outcome)))) × (after ≡ s)
