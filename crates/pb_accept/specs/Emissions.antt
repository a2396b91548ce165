-- What `emit` says of an input, as data, and with which status.
use Rattle.std.specs.Prelude.{◌≡◌, ◌≢◌, ℕ, List, [], ◌∷◌}
use Rattle.pb_object.specs.Answers.{SpellsCode, SpellsOne}
use Rattle.pb_object.specs.Formats.{FitsFirst}
use Rattle.pb_code.specs.Whole.{Code, ProcessLabels}
use Rattle.pb_code.specs.declared.format.Format.{Format}
use Rattle.pb_code.specs.declared.format.Format.TheVariants.{One, Two}
use Rattle.pb_codegen.specs.Compiled.{IsCompiled, IsRefused}
use Rattle.pb_codegen.specs.declared.fault.CompileFault.{CompileFault}
use Rattle.pb_codegen.specs.declared.fault.CompileFault.TheVariants as fault
use Rattle.pb_accept.specs.Sayings.{Saying, BeyondFirst, NoMemory, Refused, Text}
use Rattle.pb_command_io.specs.declared.status.Status.{Status}
use Rattle.pb_command_io.specs.declared.status.Status.TheVariants as status

-- the text is the code's in this format, with its labels; the first format has none
abbrev pub IsWrittenIn : Format → Code → List ProcessLabels → List ℕ → Type 0
IsWrittenIn One code labels text = SpellsOne code text
IsWrittenIn Two code labels text = SpellsCode Two code labels text

-- the first format was asked for, and can't say the code
abbrev pub IsBeyond : Format → Code → Type 0
IsBeyond format code = (format ≡ One) × ¬ FitsFirst code

-- what is said of code: its text in the format asked for; or that this can't say it; or out of memory
pub data SaysOfCode (format : Format) (code : Code) (labels : List ProcessLabels) : List Saying → Status → Type 0 where
  written : (text : List ℕ) → IsWrittenIn format code labels text → SaysOfCode format code labels (Text text ∷ []) status.Done
  beyond : IsBeyond format code → SaysOfCode format code labels (BeyondFirst ∷ []) status.Refused
  no_memory : SaysOfCode format code labels (NoMemory ∷ []) status.Memory

-- what is said of a text: it is refused; or it is accepted, and this is said of its code
pub data SaysOfEmission (format : Format) (bytes : List ℕ) : List Saying → Status → Type 0 where
  refused : (f : CompileFault) → f ≢ fault.Memory → IsRefused bytes f → SaysOfEmission format bytes (Refused f ∷ []) status.Refused
  emitted : (code : Code) (labels : List ProcessLabels) → IsCompiled bytes code labels
      → (said : List Saying) (given : Status) → SaysOfCode format code labels said given → SaysOfEmission format bytes said given
