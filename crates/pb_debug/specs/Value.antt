-- What a contract sees of a debugger.
use Rattle.std.specs.Prelude.{ℕ, ◌%◌, ◌<◌, ◌≤◌, List, length, Option, None}
use Rattle.pb_base.specs.declared.limits.TheConstants.{MAX_PICKS}
use Rattle.pb_base.specs.Banker.{BankerState}
use Rattle.pb_base.specs.declared.lending.Lending.{Lending}
use Rattle.pb_base.specs.declared.pick.Pick.{Pick}
use Rattle.pb_base.specs.Steppers.{State, banker_state}
use Rattle.pb_code.specs.Code.{CodeProcess}
use Rattle.pb_code.specs.Limits.{AreLabels}
use Rattle.pb_code.specs.Whole.{ProcessLabels, bank_of}
use Rattle.pb_verifier.specs.Verified.{VerifiedCode, IsVerified}
use Rattle.pb_history.specs.Positions.{AreEnabledBy, state_after}
use Rattle.pb_debug_positions.specs.Intervals.{IsInterval, interval_of}

-- who lends, the code, its labels, the text whose lines are shown, if there is one, and the distance of
-- checkpoints stay; picks are only added after the last; the position moves, and with it the cost of the last move
pub record Debugging : Type 0 where
  pub lending : Lending
  pub verified : VerifiedCode
  pub labels : List ProcessLabels
  pub picks : List Pick
  pub source : Option (List ℕ)
  pub position : ℕ
  pub last_cost : ℕ
  pub interval : ℕ

-- the state of the code at the position
abbrev pub state_of : Debugging → State CodeProcess
state_of d = state_after d.verified.code d.picks d.position

-- what the lender knows there
abbrev pub bank_state : Debugging → BankerState
bank_state d = banker_state (bank_of d.verified.code) (state_of d).loans

-- the code is verified and all picks are enabled under the lending, at most 10,000,000 of them; the position is one of theirs;
-- the last move cost less than the distance of checkpoints, which is that for the picks that were there at
-- first; the labels fit the code
pub record IsPosition (d : Debugging) : Type 0 where
  pub verified : IsVerified d.verified
  pub enabled : AreEnabledBy d.lending d.verified.code d.picks
  pub few : length d.picks ≤ MAX_PICKS
  pub within : d.position ≤ length d.picks
  pub cheap : d.last_cost < d.interval
  pub spaced : IsInterval (length d.picks) d.interval
  pub fit : AreLabels d.verified.code d.labels

-- before any move, with no text
abbrev pub at_start : Lending → VerifiedCode → List ProcessLabels → List Pick → Debugging
at_start lending v labels picks = record {
  lending = lending;
  verified = v;
  labels = labels;
  picks = picks;
  source = None;
  position = 0;
  last_cost = 0;
  interval = interval_of (length picks);
}

-- with a text whose lines are shown, or with none
abbrev pub showing : Option (List ℕ) → Debugging → Debugging
showing source d = record d { source = source }

-- at another position, whose cost is that from the last checkpoint up to it
abbrev pub moved_to : Debugging → ℕ → Debugging
moved_to d i = record d { position = i; last_cost = i % d.interval }
