-- Which counted picks are those of a run.
use Rattle.std.specs.Prelude.{◌≡◌, ◌<◌, ◌≤◌, ℕ, IfSome, List, Option, length}
use Rattle.pb_base.specs.declared.limits.TheConstants.{MAX_INPUT}
use Rattle.pb_base.specs.declared.event.Event.{Event}
use Rattle.pb_base.specs.declared.lending.Lending.{Lending}
use Rattle.pb_base.specs.Steppers.{State, CanGoOn, Makes}
use Rattle.pb_code.specs.Code.{CodeProcess, code_step}
use Rattle.pb_code.specs.Whole.{Code, bank_by, code_opening}
use Rattle.pb_history.specs.Entries.{Entry, picks_of}
use Rattle.pb_history.specs.Replays.{spread}
use Rattle.pb_history.specs.declared.counted.CountedPick.{CountedPick}
use Rattle.pb_picks.specs.Counted.{AreApart}
use Rattle.pb_picks.specs.PickLines.{pick_lines}
use Rattle.pb_record.specs.Draws.{IsDrawnRun}
use Rattle.pb_record.specs.declared.picks.TheConstants.{MAX_LINES}

-- picks of a run of the code under this lending, each enabled in turn from the start, that lead to this state:
-- `steps` of them, or fewer if no pick is enabled there. If there is a seed, its generator draws them. Each count
-- is as great as can be
pub record IsRecorded (lending : Lending) (code : Code) (steps : ℕ) (seed : Option ℕ) (picks : List CountedPick)
    (end : State CodeProcess) : Type 0 where
  pub events : List Event
  pub makes : Makes (bank_by lending code) (code_step code.processes) (code_opening code) (spread picks) events end
  pub few : length (spread picks) ≤ steps
  pub all : CanGoOn (bank_by lending code) (code_step code.processes) end → length (spread picks) ≡ steps
  pub drawn : IfSome seed (λ number. IsDrawnRun lending code number (spread picks))
  pub apart : AreApart picks

-- counted picks that say the picks of these entries, each count as great as can be
pub record AreCounts (entries : List Entry) (picks : List CountedPick) : Type 0 where
  pub same : spread picks ≡ picks_of entries
  pub apart : AreApart picks

-- there are more of them than an input can have pick lines
abbrev pub AreTooMany : List Entry → Type 0
AreTooMany entries = (picks : List CountedPick) × AreCounts entries picks × (MAX_LINES < length picks)

-- the lines of a run of the code under this lending, the drawn one if there is a seed, are too long for an input,
-- whatever its text
abbrev pub IsTooLong : Lending → Code → ℕ → Option ℕ → Type 0
IsTooLong lending code steps seed =
    (picks : List CountedPick) × (end : State CodeProcess) × IsRecorded lending code steps seed picks end
    × (MAX_INPUT < length (pick_lines code.names.processes picks))
