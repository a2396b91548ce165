-- What a command says of its whole input, if that may be too long or may not be read.
use Rattle.std.specs.Prelude.{ℕ, ◌<◌, ◌≤◌, List, [], codes, length}
use Rattle.pb_base.specs.declared.limits.TheConstants.{MAX_INPUT}
use Rattle.pb_base.specs.Lines.{line}
use Rattle.pb_command_io.specs.Answers.{memory_line}
use Rattle.pb_command_io.specs.declared.status.Status.{Status}
use Rattle.pb_command_io.specs.declared.status.Status.TheVariants.{Refused, Memory, Device}

-- what is said before anything is known of an input: it is too long; or out of memory; or a device fails
pub data SaysOfReading (bytes : List ℕ) : List ℕ → Status → Type 0 where
  too_long : MAX_INPUT < length bytes → SaysOfReading bytes (line (codes "refused input")) Refused
  no_memory : SaysOfReading bytes memory_line Memory
  nothing : SaysOfReading bytes [] Device

-- that, or what is said of these bytes, which are not too many
pub data SaysOfInput (SaysOf : List ℕ → List ℕ → Status → Type 0) (bytes text : List ℕ) (status : Status)
    : Type 0 where
  not_read : SaysOfReading bytes text status → SaysOfInput SaysOf bytes text status
  read : length bytes ≤ MAX_INPUT → SaysOf bytes text status → SaysOfInput SaysOf bytes text status
