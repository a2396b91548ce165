-- What is said to a person of an input that was refused.
use Rattle.std.specs.Prelude.{◌≡◌, ◌≢◌, ◌<◌, ◌≤◌, ◌⊎◌, ◌+◌, ◌++◌, ◌∷◌, ℕ, List, [], None, Some, codes, length}
use Rattle.std.specs.Fmt.{decimal}
use Rattle.pb_base.specs.declared.lending.Lending.{Lending}
use Rattle.pb_base.specs.declared.limits.TheConstants.{MAX_INPUT}
use Rattle.pb_base.specs.Steppers.{State, Table}
use Rattle.pb_code.specs.Code.{CodeProcess}
use Rattle.pb_code.specs.Whole.{Code, ProcessLabels}
use Rattle.pb_codegen.specs.Compiled.{IsCompiled}
use Rattle.pb_codegen.specs.Numbered.{IsReadAs}
use Rattle.pb_accept.specs.Causes.{picks_cause, text_cause}
use Rattle.pb_accept.specs.Loading.{IsLoadFault, IsLoaded}
use Rattle.pb_accept.specs.Causes.{load_cause}
use Rattle.pb_codegen.specs.declared.fault.CompileFault.{CompileFault}
use Rattle.pb_command_io.specs.Parts.{AreTwoParts, IsCutAt, IsMarkAt}
use Rattle.pb_accept.specs.Refusals.{IsAcceptedText}
use Rattle.pb_accept.specs.declared.load.LoadFault.{LoadFault}
use Rattle.pb_history.specs.Entries.{Entry}
use Rattle.pb_history.specs.Replays.{IsReplayBy, IsStoppedBy, spread}
use Rattle.pb_history.specs.declared.counted.CountedPick.{CountedPick}
use Rattle.pb_history.specs.declared.fault.ReplayFault.TheVariants.{NotEnabled}
use Rattle.pb_lexer.specs.Cutting.{line_at}
use Rattle.pb_messages.specs.Details.{ShowsWording}
use Rattle.pb_messages.specs.Messages.{IsMessage, IsMessageAt, TellsRefusal}
use Rattle.pb_mistakes.specs.declared.wording.Wording.{Wording}
use Rattle.pb_options.specs.declared.code.Code.TheVariants.{H1}
use Rattle.pb_accept.specs.declared.cause.Cause.{Cause}
use Rattle.pb_messages.specs.declared.message.Reading.{Reading}
use Rattle.pb_messages.specs.declared.message.Reading.TheVariants.{Text, Claims, Recorded, FirstFormat, Texts, Object}
use Rattle.pb_messages.specs.declared.message.Reading.TheVariants.{Replayed, Shown, Debugged}
use Rattle.pb_names.specs.Program.{Program}
use Rattle.pb_object.specs.Formats.{FitsFirst}
use Rattle.pb_picks.specs.PickLines.{IsFaulty, SpellsPicks}
use Rattle.pb_picks.specs.declared.fault.PickFault.{PickFault}
use Rattle.pb_message_stops.specs.Stops.{HoldsPick}
use Rattle.pb_message_stops.specs.Told.{TellsFault, TellsStop}
use Rattle.pb_message_stops.specs.declared.stops.Stop.{Stop}
use Rattle.pb_sources.specs.Sources.{IsObjectPart}

-- of an input that is too long
abbrev pub long_input : List ℕ
long_input = codes "error input: the input is longer than 4194304 bytes\n"

-- of an accepted text whose run is too long
abbrev pub long_output : List ℕ
long_output =
    codes "error output: the text with its run is longer than 4194304 bytes\n  = hint: record fewer steps: --steps 100000\n"

-- of a text: its refusal; or, if it is accepted, what is said then
abbrev pub SaysOfText : (text said told : List ℕ) → Type 0
SaysOfText text said told = (IsAcceptedText text × (told ≡ said)) ⊎ TellsRefusal [] text told

-- the same, whatever the capital; nothing if the text spells a program
abbrev pub SaysOfProgram : (text told : List ℕ) → Type 0
SaysOfProgram text told =
    ((program : Program) × (claims : Table) × IsReadAs text program claims × (told ≡ []))
    ⊎ TellsRefusal [] text told

-- of a text with this code, which is to become an object in the first format: nothing if the first format can
-- say the code, and else that it cannot
abbrev pub SaysWhetherFirst : (text : List ℕ) → Code → (told : List ℕ) → Type 0
SaysWhetherFirst text code told =
    (FitsFirst code × (told ≡ [])) ⊎ ((¬ FitsFirst code) × IsMessageAt [] text (codes "E1") None told)

-- of such a text: its refusal; or whether the first format can say its code
abbrev pub SaysOfFirstFormat : (text told : List ℕ) → Type 0
SaysOfFirstFormat text told =
    ((code : Code) × (labels : List ProcessLabels) × IsCompiled text code labels × SaysWhetherFirst text code told)
    ⊎ TellsRefusal [] text told

-- no line `%%` begins in the text
abbrev pub HasNoMark : List ℕ → Type 0
HasNoMark text = (at : ℕ) → ¬ IsMarkAt text at

-- a message after others: a line feed is between
abbrev pub behind : (others more : List ℕ) → List ℕ
behind [] more = more
behind (b ∷ bs) more = b ∷ bs ++ 10 ∷ more

-- what is named before the line of a place in a text of several
abbrev pub text_label : (number : ℕ) → List ℕ
text_label number = codes "text " ++ decimal number ++ codes ", "

-- what is named before that of the last text, which is the only one if it is the first
abbrev pub IsLastLabel : (number : ℕ) → (label : List ℕ) → Type 0
IsLastLabel number label = ((number ≡ 1) × (label ≡ [])) ⊎ ((number ≢ 1) × (label ≡ text_label number))

-- what is said when one more text was looked at, and what was said before: the same if it is accepted
abbrev pub SaysMore : (label text before told : List ℕ) → Type 0
SaysMore label text before told =
    (IsAcceptedText text × (told ≡ before))
    ⊎ ((more : List ℕ) × TellsRefusal label text more × (told ≡ behind before more))

-- the number of the next text of an input, what is left of the input from there, and what is said of the texts
-- before it in turn
pub data AreSaid (bytes : List ℕ) : (number : ℕ) → (rest told : List ℕ) → Type 0 where
  none : AreSaid bytes 1 bytes []
  more : (number : ℕ) (rest before text left told : List ℕ)
      → AreSaid bytes number rest before → IsCutAt rest text left → SaysMore (text_label number) text before told
      → AreSaid bytes (number + 1) left told

-- of texts: what is said of all of them, after the last of which is no line `%%`; or of the first ones, if
-- that has over 4,096 bytes
pub data SaysOfTexts (bytes : List ℕ) : List ℕ → Type 0 where
  all : (number : ℕ) (label text before told : List ℕ)
      → AreSaid bytes number text before → HasNoMark text → IsLastLabel number label → SaysMore label text before told
      → SaysOfTexts bytes told
  first : (number : ℕ) (rest told : List ℕ) → AreSaid bytes number rest told → 4096 < length told → SaysOfTexts bytes told

-- the message of an object that is not read, or is not safe
abbrev pub TellsObject : (bytes told : List ℕ) → Type 0
TellsObject bytes told =
    (fault : LoadFault) × (cause : Cause) × IsLoadFault bytes fault × (load_cause fault ≡ Some cause)
    × IsMessage [] bytes cause told

-- of an object: why it is refused, or nothing
abbrev pub SaysOfObjectText : (bytes told : List ℕ) → Type 0
SaysOfObjectText bytes told =
    ((code : Code) × (labels : List ProcessLabels) × IsLoaded bytes code labels × (told ≡ [])) ⊎ TellsObject bytes told

-- the cause of a pick that is not enabled, at its line
abbrev pub stop_at : (line : ℕ) → Cause
stop_at line = record { code = H1; at = Some line }

-- of pick lines over some code, with so many lines of the input before them: nothing if all picks are made under this
-- lending; else which line says no picks, with its number in the input, or that a pick is not enabled, at the line that
-- holds it, with how many picks were made
pub data SaysOfPickLines (lending : Lending) (code : Code) (before : ℕ) (lines : List ℕ) : List ℕ → Type 0 where
  made : (picks : List CountedPick) (entries : List Entry) (end : State CodeProcess)
      → SpellsPicks code lines picks → IsReplayBy lending code (spread picks) entries end → SaysOfPickLines lending code before lines []
  unread : (fault : PickFault) (cause : Cause) (wording : Wording) (told : List ℕ)
      → IsFaulty code lines fault → picks_cause fault ≡ Some cause → TellsFault before lines fault wording
      → IsMessage (codes "pick ") lines cause told → ShowsWording (codes "pick ") lines cause wording told
      → SaysOfPickLines lending code before lines told
  stopped : (picks : List CountedPick) (number : ℕ) (stop : Stop) (wording : Wording) (told : List ℕ)
      → SpellsPicks code lines picks → IsStoppedBy lending code (spread picks) (NotEnabled number)
      → HoldsPick code lines picks number stop → TellsStop before lines stop wording
      → IsMessage (codes "pick ") lines (stop_at stop.line) told → ShowsWording (codes "pick ") lines (stop_at stop.line) wording told
      → SaysOfPickLines lending code before lines told

-- of a text and pick lines, made under this lending, with so many lines of the input before these
abbrev pub SaysOfPickedText : Lending → (before : ℕ) → (text lines told : List ℕ) → Type 0
SaysOfPickedText lending before text lines told =
    ((code : Code) × (labels : List ProcessLabels) × IsCompiled text code labels × SaysOfPickLines lending code before lines told)
    ⊎ TellsRefusal [] text told

-- of an object and pick lines, made under this lending
abbrev pub SaysOfPickedObject : Lending → (before : ℕ) → (bytes lines told : List ℕ) → Type 0
SaysOfPickedObject lending before bytes lines told =
    ((code : Code) × (labels : List ProcessLabels) × IsLoaded bytes code labels × SaysOfPickLines lending code before lines told)
    ⊎ TellsObject bytes told

-- of a text or an object, and pick lines, made under this lending
abbrev pub SaysOfPickedSource : Lending → (before : ℕ) → (source lines told : List ℕ) → Type 0
SaysOfPickedSource lending before source lines told =
    (IsObjectPart source × SaysOfPickedObject lending before source lines told)
    ⊎ ((¬ IsObjectPart source) × SaysOfPickedText lending before source lines told)

-- how many lines of an input are before its pick lines: those up to the line `%%` after its source
abbrev pub lines_before : (bytes source : List ℕ) → ℕ
lines_before bytes source = line_at bytes (length source)

-- of an input that is not too long, by how the command reads it
abbrev pub SaysByReading : Reading → (bytes told : List ℕ) → Type 0
SaysByReading Text bytes told = SaysOfText bytes [] told
SaysByReading Claims bytes told = SaysOfProgram bytes told
SaysByReading Recorded bytes told = SaysOfText bytes long_output told
SaysByReading FirstFormat bytes told = SaysOfFirstFormat bytes told
SaysByReading Texts bytes told = SaysOfTexts bytes told
SaysByReading Object bytes told = SaysOfObjectText bytes told
SaysByReading (Replayed lending) bytes told =
    (text : List ℕ) × (lines : List ℕ) × AreTwoParts bytes text lines
    × SaysOfPickedText lending (lines_before bytes text) text lines told
SaysByReading (Shown lending) bytes told =
    (source : List ℕ) × (lines : List ℕ) × AreTwoParts bytes source lines
    × SaysOfPickedSource lending (lines_before bytes source) source lines told
SaysByReading (Debugged lending) bytes told =
    (source : List ℕ) × (rest : List ℕ) × (lines : List ℕ) × (commands : List ℕ)
    × AreTwoParts bytes source rest × AreTwoParts rest lines commands
    × SaysOfPickedSource lending (lines_before bytes source) source lines told

-- of any input, by what is said of one that is not too long
abbrev pub SaysWithin : (Says : (bytes told : List ℕ) → Type 0) → (bytes told : List ℕ) → Type 0
SaysWithin Says bytes told =
    ((MAX_INPUT < length bytes) × (told ≡ long_input)) ⊎ ((length bytes ≤ MAX_INPUT) × Says bytes told)

-- of any input, by how the command reads it
abbrev pub SaysToPerson : Reading → (bytes told : List ℕ) → Type 0
SaysToPerson reading = SaysWithin (SaysByReading reading)
