-- What `replay` says of an input, as data, and with which status.
use Rattle.std.specs.Prelude.{◌≡◌, ◌≢◌, ◌++◌, ℕ, List, [], ◌∷◌, Some, length}
use Rattle.pb_base.specs.declared.event.Event.{Event}
use Rattle.pb_base.specs.declared.lending.Lending.{Lending}
use Rattle.pb_base.specs.Steppers.{State}
use Rattle.pb_code.specs.Code.{CodeProcess}
use Rattle.pb_code.specs.Whole.{Code, ProcessLabels}
use Rattle.pb_codegen.specs.Compiled.{IsCompiled, IsRefused}
use Rattle.pb_codegen.specs.declared.fault.CompileFault.{CompileFault}
use Rattle.pb_codegen.specs.declared.fault.CompileFault.TheVariants as fault
use Rattle.pb_history.specs.Entries.{Entry, events_of}
use Rattle.pb_names.specs.Meaning.{SourceCanBy}
use Rattle.pb_command_io.specs.Parts.{AreTwoParts}
use Rattle.pb_accept.specs.Causes.{lines_cause}
use Rattle.pb_accept.specs.ReplayLines.{AreReplayedBy, IsEnding, IsEndStatus, IsLinesFaultBy}
use Rattle.pb_accept.specs.Sayings.{Saying, Ended, NoMemory, NoPicks, Refused}
use Rattle.pb_accept.specs.ToldEvents.{shown}
use Rattle.pb_accept.specs.declared.cause.Cause.{Cause}
use Rattle.pb_accept.specs.declared.ending.Ending.{Ending}
use Rattle.pb_accept.specs.declared.replay.LinesFault.{LinesFault}
use Rattle.pb_command_io.specs.declared.status.Status.{Status}
use Rattle.pb_command_io.specs.declared.status.Status.TheVariants as status

-- what is said of picks that made these events and led to this state under this lending: each event, and how it
-- ended
pub data SaysOfEvents (lending : Lending) (code : Code) (events : List Event) (end : State CodeProcess) : List Saying → Status → Type 0 where
  all_told : (ending : Ending) → IsEnding lending code end ending → (status : Status) → IsEndStatus end ending status
      → SaysOfEvents lending code events end (shown code.names events ++ Ended ending ∷ []) status

-- what is said of lines after an accepted text of which no picks are made
pub data SaysOfNoLines (lending : Lending) (code : Code) (lines : List ℕ) : List Saying → Status → Type 0 where
  refused_for : (fault : LinesFault) (cause : Cause) → IsLinesFaultBy lending code lines fault → lines_cause fault ≡ Some cause
      → SaysOfNoLines lending code lines (NoPicks fault ∷ []) status.Refused
  no_memory : SaysOfNoLines lending code lines (NoMemory ∷ []) status.Memory

-- what is said of the lines after an accepted text, by its code
pub data SaysOfLines (lending : Lending) (code : Code) (lines : List ℕ) : List Saying → Status → Type 0 where
  not_made : (said : List Saying) (status : Status) → SaysOfNoLines lending code lines said status
      → SaysOfLines lending code lines said status
  replayed : (entries : List Entry) (end : State CodeProcess) → AreReplayedBy lending code lines entries end
      → (said : List Saying) (status : Status) → SaysOfEvents lending code (events_of entries) end said status
      → SaysOfLines lending code lines said status

-- what is said of an input, which is a text and pick lines after it: its text is refused; or the text is
-- accepted, and its lines or their picks are refused; or all picks are made, and their events are told, of
-- which the program can make the same under this lending with as many picks
pub data SaysOfReplay (lending : Lending) (bytes : List ℕ) : List Saying → Status → Type 0 where
  no_text : (text lines : List ℕ) → AreTwoParts bytes text lines
      → (f : CompileFault) → f ≢ fault.Memory → IsRefused text f → SaysOfReplay lending bytes (Refused f ∷ []) status.Refused
  no_picks : (text lines : List ℕ) → AreTwoParts bytes text lines
      → (code : Code) (labels : List ProcessLabels) → IsCompiled text code labels
      → (fault : LinesFault) (cause : Cause) → IsLinesFaultBy lending code lines fault → lines_cause fault ≡ Some cause
      → SaysOfReplay lending bytes (NoPicks fault ∷ []) status.Refused
  made_again : (text lines : List ℕ) → AreTwoParts bytes text lines
      → (code : Code) (labels : List ProcessLabels) (compiled : IsCompiled text code labels)
      → (entries : List Entry) (end : State CodeProcess) → AreReplayedBy lending code lines entries end
      → (said : List Saying) (status : Status) → SaysOfEvents lending code (events_of entries) end said status
      → SourceCanBy lending compiled.program (events_of entries) (length entries)
      → SaysOfReplay lending bytes said status
