-- When pick lines are replayed, why they are not, and how a replay ends.
use Rattle.std.specs.Prelude.{◌≡◌, ℕ, List, Option, Some, option_map}
use Rattle.pb_base.specs.declared.lending.Lending.{Lending}
use Rattle.pb_base.specs.declared.lending.Lending.TheVariants.{ByBanker}
use Rattle.pb_base.specs.Lines.{line}
use Rattle.pb_base.specs.Steppers.{State, CanGoOn, IsFinished}
use Rattle.pb_code.specs.Code.{CodeProcess, code_over, code_step}
use Rattle.pb_code.specs.Whole.{Code, bank_by}
use Rattle.pb_history.specs.Entries.{Entry}
use Rattle.pb_history.specs.Replays.{IsReplayBy, IsStoppedBy, spread}
use Rattle.pb_history.specs.declared.counted.CountedPick.{CountedPick}
use Rattle.pb_history.specs.declared.fault.ReplayFault.{ReplayFault}
use Rattle.pb_picks.specs.PickLines.{IsFaulty, SpellsPicks}
use Rattle.pb_picks.specs.declared.fault.PickFault.{PickFault}
use Rattle.pb_accept.specs.Causes.{cause_line, lines_cause}
pub use Rattle.pb_accept.specs.Sayings.{last_line}
use Rattle.pb_accept.specs.ToldEvents.{HasFault}
use Rattle.pb_accept.specs.declared.ending.Ending.{Ending}
use Rattle.pb_accept.specs.declared.ending.Ending.TheVariants.{Over, Stuck, Open}
use Rattle.pb_accept.specs.declared.replay.LinesFault.{LinesFault}
use Rattle.pb_accept.specs.declared.replay.LinesFault.TheVariants.{NotRead, NotMade}
use Rattle.pb_command_io.specs.declared.status.Status.{Status}
use Rattle.pb_command_io.specs.declared.status.Status.TheVariants.{Deadlock, Done, Fault, Refused}

-- the lines say picks, and these, each enabled in turn from the start under this lending, make these entries
-- and lead to this state
pub record AreReplayedBy (lending : Lending) (code : Code) (lines : List ℕ) (entries : List Entry) (end : State CodeProcess)
    : Type 0 where
  pub counted : List CountedPick
  pub spelled : SpellsPicks code lines counted
  pub replay : IsReplayBy lending code (spread counted) entries end

-- so it is under the banker
abbrev pub AreReplayed : Code → List ℕ → List Entry → State CodeProcess → Type 0
AreReplayed code = AreReplayedBy ByBanker code

-- ---- refusals

-- the lines say no picks, by this fault; or they say some, of which this is the first that is not enabled
-- under this lending
abbrev pub IsLinesFaultBy : Lending → Code → List ℕ → LinesFault → Type 0
IsLinesFaultBy lending code lines (NotRead fault) = IsFaulty code lines fault
IsLinesFaultBy lending code lines (NotMade fault) =
    (counted : List CountedPick) × SpellsPicks code lines counted × IsStoppedBy lending code (spread counted) fault

-- so it is under the banker
abbrev pub IsLinesFault : Code → List ℕ → LinesFault → Type 0
IsLinesFault code = IsLinesFaultBy ByBanker code

-- the line of its cause; there is none if it is out of memory
abbrev pub lines_line : LinesFault → Option (List ℕ)
lines_line fault = option_map cause_line (lines_cause fault)

-- what is said of lines that have a fault under this lending
pub data SaysOfNoPicksBy (lending : Lending) (code : Code) (lines : List ℕ) : List ℕ → Status → Type 0 where
  refused : (fault : LinesFault) → IsLinesFaultBy lending code lines fault
      → (refusal : List ℕ) → lines_line fault ≡ Some refusal → SaysOfNoPicksBy lending code lines (line refusal) Refused

-- so it is under the banker
abbrev pub SaysOfNoPicks : Code → List ℕ → List ℕ → Status → Type 0
SaysOfNoPicks code = SaysOfNoPicksBy ByBanker code

-- ---- endings

-- some pick is enabled under this lending
abbrev pub GoesOn : Lending → Code → State CodeProcess → Type 0
GoesOn lending code s = CanGoOn (bank_by lending code) (code_step code.processes) s

-- how a replay has ended: every process has ended or faulted; or one has not, and no pick is enabled; or it
-- could go on
abbrev pub IsEnding : Lending → Code → State CodeProcess → Ending → Type 0
IsEnding lending code end Over = IsFinished code_over end
IsEnding lending code end Stuck = (¬ IsFinished code_over end) × (¬ GoesOn lending code end)
IsEnding lending code end Open = (¬ IsFinished code_over end) × GoesOn lending code end

-- the status: whether some process has faulted
pub data IsStatusAt (end : State CodeProcess) : Status → Type 0 where
  some_fault : HasFault end → IsStatusAt end Fault
  no_fault : ¬ HasFault end → IsStatusAt end Done

-- the status of a replay: that of a deadlock, or whether some process has faulted
abbrev pub IsEndStatus : State CodeProcess → Ending → Status → Type 0
IsEndStatus end Stuck status = status ≡ Deadlock
IsEndStatus end Over status = IsStatusAt end status
IsEndStatus end Open status = IsStatusAt end status
