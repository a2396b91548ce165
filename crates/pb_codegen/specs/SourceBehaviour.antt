-- Which states the source of a program reaches under its claims, and what it asks for there.
use Rattle.std.specs.Prelude.{◌≡◌, List, map, Some}
use Rattle.pb_base.specs.declared.event.Event.{Event}
use Rattle.pb_base.specs.declared.pick.Pick.{Pick}
use Rattle.pb_base.specs.Banker.{IsSafe, IsWellFormed, IsWithinClaim}
use Rattle.pb_base.specs.Steppers.{Bank, Bundle, Table, Takes, State, Move, Makes, banker_state, move_of}
use Rattle.pb_base.specs.Steppers.{opening}
use Rattle.pb_base.specs.declared.lending.Lending.TheVariants.{ByBanker}
use Rattle.pb_names.specs.Meaning.{source_bank_by}
use Rattle.pb_names.specs.Program.{Program}
use Rattle.pb_names.specs.Source.{SourceProcess, source_process, source_step}

-- what the banker of a program with these claims knows
abbrev pub bank_with : Program → Table → Bank
bank_with program claims = source_bank_by ByBanker program claims

-- some picks, each enabled in turn, lead from the opening to this state
abbrev pub SourceReaches : Program → Table → State SourceProcess → Type 0
SourceReaches program claims s =
    (picks : List Pick) × (events : List Event)
    × Makes (bank_with program claims) source_step
    (opening (bank_with program claims) (map source_process program.processes)) picks events s

-- whatever arm is at a request, it is within the claim, whether or not the banker allows it
abbrev pub SourceAsksWithin : Program → Table → State SourceProcess → Type 0
SourceAsksWithin program claims s =
    (pick : Pick) (move : Move SourceProcess) (bundle : Bundle) → move_of source_step s pick ≡ Some move
    → move.effect ≡ Takes bundle
    → IsWithinClaim (banker_state (bank_with program claims) s.loans) pick.process bundle

-- the loans are safe
abbrev pub SourceIsSafe : Program → Table → State SourceProcess → Type 0
SourceIsSafe program claims s = IsSafe (banker_state (bank_with program claims) s.loans)

-- each loan is within its claim, and all loans together within the capital
abbrev pub SourceIsWellFormed : Program → Table → State SourceProcess → Type 0
SourceIsWellFormed program claims s = IsWellFormed (banker_state (bank_with program claims) s.loans)

-- in every state that the source reaches, requests are within the claims, each loan is within its claim and
-- all loans together within the capital, and the loans are safe
pub record KeepsClaims (program : Program) (claims : Table) : Type 0 where
  pub asks_within : (s : State SourceProcess) → SourceReaches program claims s
      → SourceAsksWithin program claims s
  pub well_formed : (s : State SourceProcess) → SourceReaches program claims s
      → SourceIsWellFormed program claims s
  pub safe : (s : State SourceProcess) → SourceReaches program claims s → SourceIsSafe program claims s
