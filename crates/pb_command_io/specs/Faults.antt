-- What the status of a call tells of its input and its output.
use Rattle.std.specs.Prelude.{◌≡◌, ◌≢◌, ◌⊎◌, ℕ, List, Option}
use Rattle.pb_base.specs.Device.{one_more_failure}
use Rattle.pb_command_io.specs.declared.status.Status.{Status}
use Rattle.pb_command_io.specs.declared.status.Status.TheVariants.{Device}

-- an output that fails is told: the status is Device exactly if a write failed
abbrev pub TellsWriteFaults : (old new : ℕ) → Status → Type 0
TellsWriteFaults old new status = (status ≢ Device → new ≡ old) × (status ≡ Device → new ≡ one_more_failure old)

-- the devices of a call: how many reads of its input and writes of its output have failed, and what was
-- written
pub record Devices : Type 0 where
  pub reads : ℕ
  pub writes : ℕ
  pub written : Option (List ℕ)

-- no read and no write failed
abbrev pub NoneFailed : Devices → Devices → Type 0
NoneFailed old new = (new.reads ≡ old.reads) × (new.writes ≡ old.writes)

-- a read failed, and nothing was written
abbrev pub ReadFailed : Devices → Devices → Type 0
ReadFailed old new = (new.reads ≡ one_more_failure old.reads)
    × (new.writes ≡ old.writes) × (new.written ≡ old.written)

-- a write failed
abbrev pub WriteFailed : Devices → Devices → Type 0
WriteFailed old new = (new.reads ≡ old.reads)
    × (new.writes ≡ one_more_failure old.writes)

-- a device that fails is told: the status is Device exactly if a read or a write failed
abbrev pub TellsFaults : Devices → Devices → Status → Type 0
TellsFaults old new status =
    (status ≢ Device → NoneFailed old new) × (status ≡ Device → ReadFailed old new ⊎ WriteFailed old new)

-- one read failed, and no write; something may be written
abbrev pub OneReadFailed : Devices → Devices → Type 0
OneReadFailed old new = (new.reads ≡ one_more_failure old.reads) × (new.writes ≡ old.writes)

-- the same, of a command that may write before it reads on: the status is Device exactly if one read or one write failed
abbrev pub TellsAnyFault : Devices → Devices → Status → Type 0
TellsAnyFault old new status =
    (status ≢ Device → NoneFailed old new) × (status ≡ Device → OneReadFailed old new ⊎ WriteFailed old new)
