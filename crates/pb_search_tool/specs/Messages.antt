-- What is said to a person of print lines, and of texts that are read as one program, that were refused.
use Rattle.std.specs.Prelude.{◌≡◌, ◌⊎◌, ◌+◌, ◌++◌, ◌∷◌, ℕ, Bool, List, [], Option, Contains, IsTrue, None, Some, codes, cond, slice_get}
use Rattle.pb_accept.specs.Causes.{text_cause}
use Rattle.pb_accept.specs.declared.cause.Cause.{Cause}
use Rattle.pb_base.specs.Steppers.{Table}
use Rattle.pb_capitals.specs.declared.change.Change.{Change}
use Rattle.pb_code.specs.Whole.{Code, ProcessLabels}
use Rattle.pb_codegen.specs.Compiled.{IsCompiled}
use Rattle.pb_codegen.specs.declared.fault.CompileFault.{CompileFault}
use Rattle.pb_command_io.specs.Parts.{AreParts, AreTwoParts}
use Rattle.pb_joint.specs.Texts.{AreReadAs, IsFirstFault, are_several}
use Rattle.pb_message_stops.specs.Told.{TellsBadLine}
use Rattle.pb_message_stops.specs.declared.ends.Form.TheVariants.{Prints}
use Rattle.pb_messages.specs.Details.{ShowsWording}
use Rattle.pb_messages.specs.Messages.{IsMessage, TellsRefusal}
use Rattle.pb_messages.specs.Said.{SaysOfTexts, lines_before, text_label}
use Rattle.pb_mistakes.specs.Wordings.{notes_of}
use Rattle.pb_mistakes.specs.declared.wording.Wording.{Wording}
use Rattle.pb_names.specs.Program.{Program}
use Rattle.pb_options.specs.declared.code.Code.TheVariants.{K1}
use Rattle.pb_plan_engine.specs.Changed.{undeclared}
use Rattle.pb_search_engine.specs.Requirements.{IsBadAsked, SpellsAsked}
use Rattle.pb_search_engine.specs.declared.print_lines.PrintFault.TheVariants.{NotPrint}
use Rattle.pb_search_engine.specs.declared.requirements.Requirement.{Requirement}
use Rattle.pb_search_stages.specs.declared.print.Print.{Print}
use Rattle.pb_tree.specs.Syntax.{ProgramSyntax}

-- the cause of a line that says no print, which begins at this offset
abbrev pub unsaid_at : (at : ℕ) → Cause
unsaid_at at = record { code = K1; at = Some at }

-- of print lines over some code, and requirements before them, after this number of lines of the input: nothing if all
-- lines say these; else which line says none, with its number in the input, and what it has wrong at its ends
pub data SaysOfPrintLines (code : Code) (before : ℕ) (lines : List ℕ) : List ℕ → Type 0 where
  said : (requirements : List Requirement) (prints : List Print) → SpellsAsked code lines requirements prints
      → SaysOfPrintLines code before lines []
  unsaid : (at : ℕ) (wording : Wording) (told : List ℕ) → IsBadAsked code lines (NotPrint at) → TellsBadLine Prints before lines at wording
      → IsMessage (codes "print ") lines (unsaid_at at) told → ShowsWording (codes "print ") lines (unsaid_at at) wording told
      → SaysOfPrintLines code before lines told

-- of a text and print lines after this number of lines of the input
abbrev pub SaysOfExpectedText : (before : ℕ) → (text lines told : List ℕ) → Type 0
SaysOfExpectedText before text lines told =
    ((code : Code) × (labels : List ProcessLabels) × IsCompiled text code labels × SaysOfPrintLines code before lines told)
    ⊎ TellsRefusal [] text told

-- of a text, and print lines after the first line `%%`
abbrev pub SaysOfExpected : (bytes told : List ℕ) → Type 0
SaysOfExpected bytes told =
    (text : List ℕ) × (lines : List ℕ) × AreTwoParts bytes text lines
    × SaysOfExpectedText (lines_before bytes text) text lines told

-- what is named before the line of a place, if there are several texts; else nothing
abbrev pub IsLabelOf : (several : Bool) → (number : ℕ) → (label : List ℕ) → Type 0
IsLabelOf several number label = label ≡ cond several (text_label number) []

-- the message of the first fault of texts that are read as one program, at its place in its text
pub record TellsFirstFault (texts : List (List ℕ)) (told : List ℕ) : Type 0 where
  pub index : ℕ
  pub fault : CompileFault
  pub first : IsFirstFault texts index fault
  pub cause : Cause
  pub has : text_cause fault ≡ Some cause
  pub label : List ℕ
  pub named : IsLabelOf (are_several texts) (index + 1) label
  pub text : List ℕ
  pub at : slice_get texts index ≡ Some text
  pub message : IsMessage label text cause told

-- what is said of changes of the capital: which of them names no resource; or, if each names one, that a claim is over the
-- capital that there is with them
abbrev pub change_message : (unknown : Option Change) → List ℕ
change_message (Some change) =
    codes "error N3: --capital names a resource that is not declared: " ++ (change.resource.bytes ++ codes "\n")
change_message None =
    codes "error C1: with the capitals of --capital there is too little for a claim\n  = hint: in the line `R capital C least L free F` of the plan C has to be at least L\n"

-- what is said of texts that are this program: of the texts one by one, whose capital may be too little; or if there are
-- changes of the capital, of these
abbrev pub TellsOfRead : List Change → Program → (bytes told : List ℕ) → Type 0
TellsOfRead [] program bytes told = SaysOfTexts bytes told
TellsOfRead (change ∷ changes) program bytes told = told ≡ change_message (undeclared (change ∷ changes) program)

-- of texts that are read as one program, with changes of its capital: the message of the first fault; or there is none, and
-- what is said of this program
pub data SaysOfTogether (changes : List Change) (bytes : List ℕ) : List ℕ → Type 0 where
  refused : (texts : List (List ℕ)) (told : List ℕ) → AreParts bytes texts → TellsFirstFault texts told
      → SaysOfTogether changes bytes told
  read : (texts : List (List ℕ)) (trees : List ProgramSyntax) (program : Program) (claims : Table) (told : List ℕ)
      → AreParts bytes texts → AreReadAs texts trees program claims → TellsOfRead changes program bytes told
      → SaysOfTogether changes bytes told

-- ---- what serves the proof

-- a wording has all notes of an earlier one, or there was no memory for it
abbrev pub KeepsNotes : (old new : Wording) → Type 0
KeepsNotes old new =
    IsTrue new.is_whole → IsTrue old.is_whole × ((note : List ℕ) → Contains (notes_of old) note → Contains (notes_of new) note)
