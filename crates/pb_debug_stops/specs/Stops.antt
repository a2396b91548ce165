-- Where a person stops along the picks.
use Rattle.std.specs.Prelude.{◌≡◌, ℕ, ◌+◌, List, Option, Some, Contains, slice_get}
use Rattle.pb_base.specs.declared.pick.Pick.{Pick}
use Rattle.pb_code.specs.Whole.{Code, ProcessLabels}
use Rattle.pb_debug_positions.specs.Searches.{arm_line_at}

-- pick k moves an arm: it is at another line after it
abbrev pub Moves : Code → List ProcessLabels → List Pick → (p a k : ℕ) → Type 0
Moves code labels picks p a k = arm_line_at code labels picks k p a ≡ arm_line_at code labels picks (k + 1) p a → ⊥

-- an arm is at one of these lines, and was not there before
abbrev pub ComesTo : (lines : List ℕ) → (before after : Option ℕ) → Type 0
ComesTo lines before after = (n : ℕ) × Contains lines n × (before ≡ Some n → ⊥) × (after ≡ Some n)

-- pick k brings an arm of its process to one of these lines
abbrev pub Arrives : Code → List ProcessLabels → List Pick → (lines : List ℕ) → (k : ℕ) → Type 0
Arrives code labels picks lines k =
    (pick : Pick) × (slice_get picks k ≡ Some pick)
    × ((a : ℕ) × ComesTo lines (arm_line_at code labels picks k pick.process a) (arm_line_at code labels picks (k + 1) pick.process a))
