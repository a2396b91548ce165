-- Laws of pick lines, over code whose names are names of the language and differ from one another.
use Rattle.std.specs.Prelude.{◌≡◌, ℕ, ◌≤◌, List, length, All}
use Rattle.pb_base.specs.declared.limits.TheConstants.{MAX_PICKS}
use Rattle.pb_code.specs.Limits.{KeepsLimits}
use Rattle.pb_code.specs.Whole.{Code}
use Rattle.pb_history.specs.Replays.{spread}
use Rattle.pb_history.specs.declared.counted.CountedPick.{CountedPick}
use Rattle.pb_picks.specs.declared.fault.PickFault.{PickFault}
use Rattle.pb_picks.specs.declared.fault.PickFault.TheVariants.{NoMemory}
use Rattle.pb_picks.specs.PickLines.{IsFaulty, SpellsPick, SpellsPicks, pick_line, pick_lines}

-- the line of each of these says it: its process and its arm are there, and its count is from 1 to 10,000,000
abbrev pub CanBeSaid : Code → List CountedPick → Type 0
CanBeSaid code picks = All (λ c. SpellsPick code (pick_line code.names.processes c) c) picks

-- the lines of picks say just these picks
abbrev pub LinesSpell : Type 0
LinesSpell =
    (code : Code) (picks : List CountedPick) → KeepsLimits code → CanBeSaid code picks
    → length (spread picks) ≤ MAX_PICKS → SpellsPicks code (pick_lines code.names.processes picks) picks

-- a text says at most one list of picks
abbrev pub SpellsAtMostOne : Type 0
SpellsAtMostOne =
    (code : Code) (text : List ℕ) (a b : List CountedPick) → KeepsLimits code
    → SpellsPicks code text a → SpellsPicks code text b → a ≡ b

-- a text that says picks has no faulty line
abbrev pub SpelledIsNotFaulty : Type 0
SpelledIsNotFaulty =
    (code : Code) (text : List ℕ) (picks : List CountedPick) (fault : PickFault) → KeepsLimits code
    → SpellsPicks code text picks → IsFaulty code text fault → fault ≡ NoMemory
