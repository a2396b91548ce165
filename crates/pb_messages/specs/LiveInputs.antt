-- What is said to a person of a refused input of `debug --live`, whose commands are read as they come.
use Rattle.std.specs.Prelude.{◌≡◌, ◌-◌, ◌<◌, ◌⊎◌, ℕ, List, codes, length}
use Rattle.pb_base.specs.declared.lending.Lending.{Lending}
use Rattle.pb_base.specs.declared.limits.TheConstants.{MAX_INPUT}
use Rattle.pb_command_io.specs.Parts.{AreTwoParts}
use Rattle.pb_messages.specs.Said.{SaysByReading}
use Rattle.pb_messages.specs.declared.message.Reading.TheVariants.{Debugged}

-- of one of the two parts before the commands, if it is too long
abbrev pub long_part : List ℕ
long_part = codes "error input: the text or the pick lines, with the line %% after them, are longer than 4194304 bytes\n"

-- what is before the rest of some bytes, with the line `%%` after it, is over 4,194,304 bytes
abbrev pub IsLongBefore : (bytes rest : List ℕ) → Type 0
IsLongBefore bytes rest = MAX_INPUT < length bytes - length rest

-- one of the two parts before the commands is too long; or neither is, however long both are together, and it
-- is said what is said of a text or an object and pick lines, made under this lending
abbrev pub SaysOfLiveInput : Lending → (bytes told : List ℕ) → Type 0
SaysOfLiveInput lending bytes told =
    (source : List ℕ) × (rest : List ℕ) × (lines : List ℕ) × (commands : List ℕ)
    × AreTwoParts bytes source rest × AreTwoParts rest lines commands
    × (((IsLongBefore bytes rest ⊎ IsLongBefore rest commands) × (told ≡ long_part))
    ⊎ ((¬ IsLongBefore bytes rest) × (¬ IsLongBefore rest commands) × SaysByReading (Debugged lending) bytes told))
