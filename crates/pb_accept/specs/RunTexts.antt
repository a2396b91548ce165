-- A text with the picks of a run after it, as `replay` reads it.
use Rattle.std.specs.Prelude.{◌≡◌, ◌<◌, ◌≤◌, ◌⊎◌, ◌++◌, ◌-◌, ℕ, List, Some, codes, length, slice_get}
use Rattle.pb_base.specs.declared.limits.TheConstants.{MAX_INPUT}
use Rattle.pb_base.specs.Lines.{NameTable, line}
use Rattle.pb_command_io.specs.declared.status.Status.{Status}
use Rattle.pb_command_io.specs.declared.status.Status.TheVariants.{Done, Refused}
use Rattle.pb_history.specs.declared.counted.CountedPick.{CountedPick}
use Rattle.pb_picks.specs.PickTexts.{pick_lines}

-- the last byte of the text is a line feed
abbrev pub EndsLine : List ℕ → Type 0
EndsLine text = slice_get text (length text - 1) ≡ Some 10

-- the text, with a line feed after it if it ends in none
abbrev pub IsEnded : (text ended : List ℕ) → Type 0
IsEnded text ended = (EndsLine text × (ended ≡ text)) ⊎ ((¬ EndsLine text) × (ended ≡ line text))

-- a text, a line of two percent signs, and the lines of picks
abbrev pub with_picks : List ℕ → NameTable → List CountedPick → List ℕ
with_picks text names picks = text ++ (line (codes "%%") ++ pick_lines names.processes picks)

-- what is said of a text and the picks of a run: the text with these picks; or that this would be too long for an
-- input
pub data SaysOfRunText (bytes : List ℕ) (names : NameTable) (picks : List CountedPick) : List ℕ → Status → Type 0 where
  written : (ended : List ℕ) → IsEnded bytes ended → length (with_picks ended names picks) ≤ MAX_INPUT
      → SaysOfRunText bytes names picks (with_picks ended names picks) Done
  too_long : (ended : List ℕ) → IsEnded bytes ended → MAX_INPUT < length (with_picks ended names picks)
      → SaysOfRunText bytes names picks (line (codes "refused output")) Refused
