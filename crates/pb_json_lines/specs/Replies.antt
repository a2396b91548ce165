-- What is written of a command that wrote to memory, as JSON lines.
use Rattle.std.specs.Prelude.{◌≡◌, ◌≢◌, ◌⊎◌, ℕ, List, Option, codes}
use Rattle.pb_base.specs.Lines.{line}
use Rattle.pb_command_io.specs.Answers.{Says}
use Rattle.pb_command_io.specs.declared.status.Status.{Status}
use Rattle.pb_command_io.specs.declared.status.Status.TheVariants.{Device, Memory}
use Rattle.pb_json_lines.specs.JsonLines.{json_lines}
use Rattle.pb_json_lines.specs.declared.form.Dialect.{Dialect}

-- an output over memory: the bytes that it was given, and its failures
pub record Gathering : Type 0 where
  pub bytes : List ℕ
  pub failures : ℕ

-- a read of the command failed: its status is that of a device, and no write has failed
pub record ReadFailed (given : Status) (failures : ℕ) : Type 0 where
  pub device : given ≡ Device
  pub written : failures ≡ 0

-- the line of a command that is out of memory
abbrev pub memory_object : List ℕ
memory_object = line (codes "{\"kind\":\"memory\"}")

-- the JSON lines of what the command wrote, with its status, or that memory did not suffice
abbrev pub SaysInJson : Dialect → (bytes : List ℕ) (given : Status) (old new : Option (List ℕ)) → Status → Type 0
SaysInJson dialect bytes given old new answered =
    ((given ≢ Device) × Says old new (json_lines dialect bytes) given answered) ⊎ Says old new memory_object Memory answered

-- the same, or a read failed: then nothing is written
abbrev pub TellsInJson : Dialect → (bytes : List ℕ) (given : Status) (old new : Option (List ℕ)) → Status → Type 0
TellsInJson dialect bytes given old new answered =
    SaysInJson dialect bytes given old new answered ⊎ ((given ≡ Device) × (new ≡ old) × (answered ≡ Device))
