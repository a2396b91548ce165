-- What may be said of a whole input, which may be too long or not be read.
use Rattle.std.specs.Prelude.{◌<◌, ◌≤◌, ℕ, List, [], ◌∷◌, length}
use Rattle.pb_base.specs.declared.limits.TheConstants.{MAX_INPUT}
use Rattle.pb_command_io.specs.declared.status.Status.{Status}
use Rattle.pb_command_io.specs.declared.status.Status.TheVariants.{Refused, Memory, Device}

-- what is said of any input of which this is said if it is read: one thing if it is too long, and another if out of
-- memory; or nothing, if a device fails
pub data SaysOfWhole {S : Type 0} (long_said memory_said : S) (SaysOf : List ℕ → List S → Status → Type 0) (bytes : List ℕ)
    : List S → Status → Type 0 where
  too_long : MAX_INPUT < length bytes → SaysOfWhole long_said memory_said SaysOf bytes (long_said ∷ []) Refused
  no_memory : SaysOfWhole long_said memory_said SaysOf bytes (memory_said ∷ []) Memory
  nothing : SaysOfWhole long_said memory_said SaysOf bytes [] Device
  read : (said : List S) (given : Status) → length bytes ≤ MAX_INPUT → SaysOf bytes said given
      → SaysOfWhole long_said memory_said SaysOf bytes said given

-- nothing may be said of bytes that are not read
abbrev pub SaysOfNothing : {S : Type 0} → List ℕ → List S → Status → Type 0
SaysOfNothing bytes said given = ⊥
