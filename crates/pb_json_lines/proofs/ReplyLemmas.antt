-- From what a command told of its devices, when it wrote to memory, to what the call tells of its own.
use Rattle.std.proofs.Common.{◌≡◌, ◌≢◌, ◌⊎◌, ℕ, List, refl, sym, ap, ◌∙◌, inl, inr}
use Rattle.pb_base.specs.Device.{one_more_failure}
use Rattle.pb_command_io.specs.Faults.{Devices, TellsFaults, TellsWriteFaults}
use Rattle.pb_command_io.specs.declared.status.Status.{Status}
use Rattle.pb_command_io.specs.declared.status.Status.TheVariants.{Done, Refused, Words, Limit, Fault, Memory, Device}
use Rattle.pb_command_io.specs.declared.status.Status.TheVariants.{Threads, Deadlock, Unexpected}
use Rattle.pb_json_lines.specs.declared.form.Dialect.{Dialect}
use Rattle.pb_json_lines.specs.Replies.{ReadFailed, SaysInJson, TellsInJson}

-- the status is that of a device, or not
pub is_device : (status : Status) → (status ≡ Device) ⊎ (status ≢ Device)
is_device Done = inr (λ e. cc)
is_device Refused = inr (λ e. cc)
is_device Words = inr (λ e. cc)
is_device Limit = inr (λ e. cc)
is_device Fault = inr (λ e. cc)
is_device Memory = inr (λ e. cc)
is_device Device = inl refl
is_device Threads = inr (λ e. cc)
is_device Deadlock = inr (λ e. cc)
is_device Unexpected = inr (λ e. cc)

-- one read failed, and no write to memory; or one write to memory, and no read
abbrev pub OneFailed : (old_reads new_reads failures : ℕ) → Type 0
OneFailed old_reads new_reads failures =
    ((new_reads ≡ one_more_failure old_reads) × (failures ≡ 0)) ⊎ ((new_reads ≡ old_reads) × (failures ≡ 1))

-- what a command tells of its devices, if it writes to memory
abbrev pub TellsGathered : (old_reads new_reads failures : ℕ) → Status → Type 0
TellsGathered old_reads new_reads failures given =
    (given ≢ Device → (new_reads ≡ old_reads) × (failures ≡ 0)) × (given ≡ Device → OneFailed old_reads new_reads failures)

module _ (dialect : Dialect) (bytes : List ℕ) (given answered : Status) (old_reads new_reads failures : ℕ) (old new : Devices)
    (before : old.reads ≡ old_reads) (after : new.reads ≡ new_reads) where
  -- no read failed: the faults are those of the writes
  no_read : new_reads ≡ old_reads → TellsWriteFaults old.writes new.writes answered → TellsFaults old new answered
  no_read same writes =
      let reads : new.reads ≡ old.reads = after ∙ (same ∙ sym before) in
      (λ not_device. (reads, writes.0 not_device), λ device. inr (reads, writes.1 device))

  -- a read failed: nothing is written
  one_read : new_reads ≡ one_more_failure old_reads → new.writes ≡ old.writes → new.written ≡ old.written → answered ≡ Device
      → TellsFaults old new answered
  one_read more writes written device =
      let reads : new.reads ≡ one_more_failure old.reads = after ∙ (more ∙ ap one_more_failure (sym before)) in
      (λ not_device. absurd (not_device device), λ _. inl (reads, writes, written))

  module _ (tells : TellsGathered old_reads new_reads failures given)
      (unread : ReadFailed given failures → (new.writes ≡ old.writes) × (new.written ≡ old.written) × (answered ≡ Device))
      (text : (ReadFailed given failures → ⊥) → SaysInJson dialect bytes given old.written new.written answered)
      (faults : (ReadFailed given failures → ⊥) → TellsWriteFaults old.writes new.writes answered) where
    pub told_faults : TellsFaults old new answered
    told_faults = elim (is_device given) [
      | inl device ↦ elim (tells.1 device) [
        | inl read ↦
            let nothing = unread (record { device = device; written = read.1 }) in
            one_read read.0 nothing.0 nothing.1 nothing.2
        | inr write ↦ no_read write.0 (faults (λ r. (let none = r.written in let one = write.1 in cc)))
      ]
      | inr other ↦ no_read (tells.0 other).0 (faults (λ r. other r.device))
    ]

    pub told_text : TellsInJson dialect bytes given old.written new.written answered
    told_text = elim (is_device given) [
      | inl device ↦ elim (tells.1 device) [
        | inl read ↦
            let nothing = unread (record { device = device; written = read.1 }) in inr (device, nothing.1, nothing.2)
        | inr write ↦ inl (text (λ r. (let none = r.written in let one = write.1 in cc)))
      ]
      | inr other ↦ inl (text (λ r. other r.device))
    ]
