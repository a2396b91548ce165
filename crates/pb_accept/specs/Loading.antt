-- When the bytes of an object give code that is safe to run, and what is said if they do not.
use Rattle.std.specs.Prelude.{◌≡◌, ℕ, List, Option, Some, option_map}
use Rattle.pb_object.specs.Answers.{SpellsCode, IsFaultOf}
use Rattle.pb_code.specs.Whole.{Code, ProcessLabels}
use Rattle.pb_code.specs.declared.format.Format.{Format}
use Rattle.pb_verifier.specs.Verified.{IsFaultless, IsRefusedFor}
use Rattle.pb_base.specs.Lines.{line}
use Rattle.pb_accept.specs.Causes.{cause_line, load_cause}
use Rattle.pb_accept.specs.declared.load.LoadFault.{LoadFault}
use Rattle.pb_accept.specs.declared.load.LoadFault.TheVariants.{Object, Unsafe}
use Rattle.pb_command_io.specs.declared.status.Status.{Status}
use Rattle.pb_command_io.specs.declared.status.Status.TheVariants.{Refused}

-- the bytes spell this code and these labels, and the code is safe to run
pub record IsLoaded (bytes : List ℕ) (code : Code) (labels : List ProcessLabels) : Type 0 where
  pub format : Format
  pub spelled : SpellsCode format code labels bytes
  pub safe : IsFaultless code

-- the bytes are not an object, by this fault; or they spell code that is refused for it
abbrev pub IsLoadFault : List ℕ → LoadFault → Type 0
IsLoadFault bytes (Object fault) = IsFaultOf bytes fault
IsLoadFault bytes (Unsafe fault) =
    (format : Format) × (code : Code) × (labels : List ProcessLabels) × SpellsCode format code labels bytes
    × IsRefusedFor code fault

-- the line of its cause; there is none if it is out of memory
abbrev pub load_line : LoadFault → Option (List ℕ)
load_line fault = option_map cause_line (load_cause fault)

-- what is said of bytes that give no safe code
pub data SaysOfNoCode (bytes : List ℕ) : List ℕ → Status → Type 0 where
  refused : (fault : LoadFault) → IsLoadFault bytes fault
      → (refusal : List ℕ) → load_line fault ≡ Some refusal → SaysOfNoCode bytes (line refusal) Refused
