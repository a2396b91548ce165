-- What `states` says of an input, as data, and with which status.
use Rattle.std.specs.Prelude.{◌≡◌, ◌≢◌, ℕ, List, [], ◌∷◌, Option, Some, None}
use Rattle.pb_base.specs.Steppers.{State}
use Rattle.pb_base.specs.declared.lending.Lending.{Lending}
use Rattle.pb_code.specs.Code.{CodeProcess}
use Rattle.pb_code.specs.Whole.{Code, ProcessLabels}
use Rattle.pb_object.specs.Answers.{SpellsCode}
use Rattle.pb_code.specs.declared.format.Format.TheVariants.{Two}
use Rattle.pb_page.specs.Runs.{IsRunDocument}
use Rattle.pb_page.specs.declared.run.Shown.{Shown}
use Rattle.pb_command_io.specs.Parts.{AreTwoParts}
use Rattle.pb_accept.specs.Causes.{load_cause}
use Rattle.pb_accept.specs.Loading.{IsLoadFault}
use Rattle.pb_accept.specs.ReplayLines.{AreReplayedBy, IsEnding, IsEndStatus, last_line}
use Rattle.pb_accept.specs.Replays.{SaysOfNoLines}
use Rattle.pb_accept.specs.Sayings.{Saying, NoCode, NoMemory, Refused, Text}
use Rattle.pb_accept.specs.declared.cause.Cause.{Cause}
use Rattle.pb_accept.specs.declared.ending.Ending.{Ending}
use Rattle.pb_accept.specs.declared.load.LoadFault.{LoadFault}
use Rattle.pb_codegen.specs.Compiled.{IsRefused}
use Rattle.pb_codegen.specs.declared.fault.CompileFault.{CompileFault}
use Rattle.pb_codegen.specs.declared.fault.CompileFault.TheVariants as fault
use Rattle.pb_command_io.specs.declared.status.Status.{Status}
use Rattle.pb_command_io.specs.declared.status.Status.TheVariants as status
use Rattle.pb_history.specs.Entries.{Entry, picks_of}
use Rattle.pb_sources.specs.Sources.{GivesCode, IsObjectPart}

-- a document of the run that made these entries and led to this state under this lending, with the text and the object
-- of its program; it tells by the last word of `replay` how the run has ended, and the status is that of `replay`
pub record IsDocument (lending : Lending) (shown : Shown) (source : List ℕ) (code : Code) (labels : List ProcessLabels) (entries : List Entry)
    (end : State CodeProcess) (document : List ℕ) (given : Status) : Type 0 where
  pub object : List ℕ
  pub spelled : SpellsCode Two code labels object
  pub ending : Ending
  pub ends : IsEnding lending code end ending
  pub written : IsRunDocument lending code labels (picks_of entries) source object shown.from shown.rows (last_line ending) document
  pub told : IsEndStatus end ending given

-- what is said of the lines after what gave this code: their picks are refused under this lending; or all
-- are made, and the document of their run is told
pub data SaysOfStatesLines (lending : Lending) (shown : Shown) (source : List ℕ) (code : Code) (labels : List ProcessLabels) (lines : List ℕ)
    : List Saying → Status → Type 0 where
  not_made : (said : List Saying) (given : Status) → SaysOfNoLines lending code lines said given
      → SaysOfStatesLines lending shown source code labels lines said given
  no_memory : SaysOfStatesLines lending shown source code labels lines (NoMemory ∷ []) status.Memory
  shows : (entries : List Entry) (end : State CodeProcess) → AreReplayedBy lending code lines entries end
      → (document : List ℕ) (given : Status) → IsDocument lending shown source code labels entries end document given
      → SaysOfStatesLines lending shown source code labels lines (Text document ∷ []) given

-- the text that a document has: that whose lines are shown; none of an object
abbrev pub text_shown : Option (List ℕ) → List ℕ
text_shown (Some text) = text
text_shown None = []

-- what is said of an input, which is a text or an object and pick lines after it: the first part gives no code; or
-- it gives some
pub data SaysOfStates (lending : Lending) (shown : Shown) (bytes : List ℕ) : List Saying → Status → Type 0 where
  no_object : (source lines : List ℕ) → AreTwoParts bytes source lines → IsObjectPart source
      → (f : LoadFault) (cause : Cause) → IsLoadFault source f → load_cause f ≡ Some cause
      → SaysOfStates lending shown bytes (NoCode f ∷ []) status.Refused
  no_text : (source lines : List ℕ) → AreTwoParts bytes source lines → ¬ IsObjectPart source
      → (f : CompileFault) → f ≢ fault.Memory → IsRefused source f
      → SaysOfStates lending shown bytes (Refused f ∷ []) status.Refused
  with_code : (source lines : List ℕ) → AreTwoParts bytes source lines
      → (code : Code) (labels : List ProcessLabels) (text : Option (List ℕ)) → GivesCode source code labels text
      → (said : List Saying) (given : Status) → SaysOfStatesLines lending shown (text_shown text) code labels lines said given
      → SaysOfStates lending shown bytes said given
