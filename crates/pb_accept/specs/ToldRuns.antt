-- What is said of a text and the picks of a run of it, as data, and with which status.
use Rattle.std.specs.Prelude.{ℕ, ◌<◌, ◌≤◌, List, [], ◌∷◌, length}
use Rattle.pb_accept.specs.RunTexts.{IsEnded, with_picks}
use Rattle.pb_accept.specs.Sayings.{Saying, LongOutput, NoMemory, Recorded}
use Rattle.pb_base.specs.Lines.{NameTable}
use Rattle.pb_base.specs.declared.limits.TheConstants.{MAX_INPUT}
use Rattle.pb_command_io.specs.declared.status.Status.{Status}
use Rattle.pb_command_io.specs.declared.status.Status.TheVariants as status
use Rattle.pb_history.specs.declared.counted.CountedPick.{CountedPick}

-- the text with these picks, and the status that is given; or that this would be too long for an input; or out of memory
pub data SaysOfRecorded (bytes : List ℕ) (names : NameTable) (picks : List CountedPick) (given : Status) : List Saying → Status → Type 0 where
  recorded : (text : List ℕ) → IsEnded bytes text → length (with_picks text names picks) ≤ MAX_INPUT
      → SaysOfRecorded bytes names picks given (Recorded text names picks ∷ []) given
  too_long : (text : List ℕ) → IsEnded bytes text → MAX_INPUT < length (with_picks text names picks)
      → SaysOfRecorded bytes names picks given (LongOutput ∷ []) status.Refused
  no_memory : SaysOfRecorded bytes names picks given (NoMemory ∷ []) status.Memory
