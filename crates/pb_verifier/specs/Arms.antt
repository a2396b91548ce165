-- The parts of sound arms and forks. No public contract cites this file.
use Rattle.std.specs.Prelude.{◌≡◌, ◌↔◌, ◌≤◌, ◌<◌, ◌⊎◌, ℕ, ◌+◌, Bool, true, false, List, length, slice_index_or, ⊤}
use Rattle.pb_base.specs.declared.limits.TheConstants.{MAX_ARMS}
use Rattle.pb_code.specs.Code.{Instr, Jump, JumpIfZero, Fork, Join, End, ProcessCode}
use Rattle.pb_verifier.specs.Places.{InstrAt, arms, entry, arm_end, IsInArm, JumpsTo, IsAmong}

-- arm 0 begins at place 0, each other after the one before it, and all inside the code
pub record EntriesRise (code : ProcessCode) : Type 0 where
  pub first : entry code 0 ≡ 0
  pub rise : (a : ℕ) → a + 1 < arms code → entry code a < entry code (a + 1)
  pub inside : (a : ℕ) → a < arms code → entry code a < length code.instrs

-- no jump leaves this arm
abbrev pub JumpsStay : ProcessCode → ℕ → Type 0
JumpsStay code a =
    (place target : ℕ) (i : Instr) → IsInArm code a place → InstrAt code place i → JumpsTo i target
    → IsInArm code a target

-- an instruction after which no next place comes
abbrev pub Closes : Instr → Type 0
Closes End = ⊤
Closes (Jump target) = ⊤
Closes i = ⊥

-- the last instruction of this arm is one of these
abbrev pub IsClosed : ProcessCode → ℕ → Type 0
IsClosed code a =
    (place : ℕ) → place + 1 ≡ arm_end code a
    → InstrAt code place End ⊎ ((target : ℕ) × InstrAt code place (Jump target))

-- each fork of this arm names later arms
abbrev pub ForksLater : ProcessCode → ℕ → Type 0
ForksLater code a =
    (place first count : ℕ) → IsInArm code a place → InstrAt code place (Fork first count)
    → (a < first) × (first + count ≤ arms code)

-- a fork has its join after it, a join its fork before it, and no jump leads to a join
abbrev pub IsPaired : ProcessCode → ℕ → Instr → Type 0
IsPaired code place (Fork first count) = InstrAt code (place + 1) (Join first count)
IsPaired code place (Join first count) =
    (before : ℕ) × (place ≡ before + 1) × InstrAt code before (Fork first count)
IsPaired code place (Jump target) = (first count : ℕ) → InstrAt code target (Join first count) → ⊥
IsPaired code place (JumpIfZero target) = (first count : ℕ) → InstrAt code target (Join first count) → ⊥
IsPaired code place i = ⊤

-- a fork at a place before n names arm b
abbrev pub IsNamedBefore : ProcessCode → (n b : ℕ) → Type 0
IsNamedBefore code n b =
    (p : ℕ) × (first : ℕ) × (count : ℕ) × (p < n) × InstrAt code p (Fork first count) × IsAmong first count b

-- no arm is named by forks at two places before n
abbrev pub IsOnceBefore : ProcessCode → ℕ → Type 0
IsOnceBefore code n =
    (b p f m q g o : ℕ) → p < n → q < n → InstrAt code p (Fork f m) → IsAmong f m b
    → InstrAt code q (Fork g o) → IsAmong g o b → p ≡ q

-- the arms that forks at places before n name are marked, and none is named twice there
pub record IsMarked (code : ProcessCode) (n : ℕ) (marks : List Bool) : Type 0 where
  pub sized : length marks ≡ MAX_ARMS
  pub marked : (b : ℕ) → b < MAX_ARMS → ((slice_index_or marks b false ≡ true) ↔ IsNamedBefore code n b)
  pub once : IsOnceBefore code n

-- each arm but the first is named by a fork, and by one alone
pub record AreNamed (code : ProcessCode) : Type 0 where
  pub named : (b : ℕ) → 1 ≤ b → b < arms code
      → (place : ℕ) × (first : ℕ) × (count : ℕ) × InstrAt code place (Fork first count)
      × IsAmong first count b
  pub once : (b p f n q g m : ℕ) → InstrAt code p (Fork f n) → IsAmong f n b → InstrAt code q (Fork g m)
      → IsAmong g m b → p ≡ q
