-- The places of the code of one process: which arm has them, which follow which, and which are reached.
use Rattle.std.specs.Prelude.{◌≡◌, ◌≤◌, ◌<◌, ◌⊎◌, ℕ, ◌+◌, length, get_or, slice_get, Some}
use Rattle.pb_code.specs.Code.{Instr, Jump, JumpIfZero, End, ProcessCode}

-- an instruction is at a place
abbrev pub InstrAt : ProcessCode → ℕ → Instr → Type 0
InstrAt code place i = slice_get code.instrs place ≡ Some i

-- how many arms there are
abbrev pub arms : ProcessCode → ℕ
arms code = length code.entries

-- where an arm begins
abbrev pub entry : ProcessCode → ℕ → ℕ
entry code a = get_or code.entries a 0

-- where the next arm begins, or the end of the code
abbrev pub arm_end : ProcessCode → ℕ → ℕ
arm_end code a = get_or code.entries (a + 1) (length code.instrs)

-- a place is one of an arm's
abbrev pub IsInArm : ProcessCode → (arm place : ℕ) → Type 0
IsInArm code a place = (a < arms code) × (entry code a ≤ place) × (place < arm_end code a)

-- an instruction may jump to a place
abbrev pub JumpsTo : Instr → ℕ → Type 0
JumpsTo i target = (i ≡ Jump target) ⊎ (i ≡ JumpIfZero target)

-- arm b is one of those that a fork or a join names
abbrev pub IsAmong : (first count b : ℕ) → Type 0
IsAmong first count b = (first ≤ b) × (b < first + count)

-- a place that may come after an instruction
abbrev pub Follows : Instr → (place next : ℕ) → Type 0
Follows (Jump target) place next = next ≡ target
Follows (JumpIfZero target) place next = (next ≡ target) ⊎ (next ≡ place + 1)
Follows End place next = ⊥
Follows i place next = next ≡ place + 1

-- the entries of all arms, and what follows from a reached place
pub data Reached (code : ProcessCode) : ℕ → Type 0 where
  at_entry : (a place : ℕ) → a < arms code → place ≡ entry code a → Reached code place
  from : (place next : ℕ) (i : Instr) → Reached code place → InstrAt code place i → Follows i place next
      → Reached code next

-- a fact for each place: that of an entry is `start`, and each reached instruction turns the fact of its
-- place into that of all places that may follow
pub record Spreads {X : Type 0} (code : ProcessCode) (Turns : Instr → X → X → Type 0) (start : X) (fact : ℕ → X) : Type 0 where
  pub starts : (a : ℕ) → a < arms code → fact (entry code a) ≡ start
  pub flows : (place : ℕ) (i : Instr) → Reached code place → InstrAt code place i
      → (after : X) × Turns i (fact place) after × ((next : ℕ) → Follows i place next → fact next ≡ after)
