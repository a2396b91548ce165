-- A depth and holdings noted at places of code, so that no operand is missing and holds nest.
use Rattle.std.specs.Prelude.{◌≡◌, ℕ, zero, suc, ◌+◌, ◌<◌, List, [], ◌∷◌, length, get_or, slice_get, Option, Some}
use Rattle.pb_base.specs.Steppers.{Bundle}
use Rattle.pb_code.specs.Code.{Instr, Push, Load, Store, Compute1, Compute2, Jump, JumpIfZero, PrintTop, Take}
use Rattle.pb_code.specs.Code.{Give, Fork, Join, End, ProcessCode}

-- how many operands there are, and what was taken and not yet given, the last first
pub record Shape : Type 0 where
  pub depth : ℕ
  pub holdings : List Bundle

-- the shape of a place, if it has one
abbrev pub Notes : Type 0
Notes = ℕ → Option Shape

abbrev pub Leads : Notes → ℕ → ℕ → List Bundle → Type 0
Leads notes place depth holdings = notes place ≡ Some (record { depth = depth; holdings = holdings })

-- an instruction at a place of this depth and with these holdings finds what it needs, and leads to places of
-- the right shape
abbrev pub Fits : Notes → Instr → (place depth : ℕ) → List Bundle → Type 0
Fits notes (Push v) p d hs = Leads notes (p + 1) (suc d) hs
Fits notes (Load x) p d hs = Leads notes (p + 1) (suc d) hs
Fits notes (Store x) p zero hs = ⊥
Fits notes (Store x) p (suc d) hs = Leads notes (p + 1) d hs
Fits notes (Compute1 op) p zero hs = ⊥
Fits notes (Compute1 op) p (suc d) hs = Leads notes (p + 1) (suc d) hs
Fits notes (Compute2 op) p zero hs = ⊥
Fits notes (Compute2 op) p (suc zero) hs = ⊥
Fits notes (Compute2 op) p (suc (suc d)) hs = Leads notes (p + 1) (suc d) hs
Fits notes (Jump target) p d hs = Leads notes target d hs
Fits notes (JumpIfZero target) p zero hs = ⊥
Fits notes (JumpIfZero target) p (suc d) hs = Leads notes target d hs × Leads notes (p + 1) d hs
Fits notes PrintTop p zero hs = ⊥
Fits notes PrintTop p (suc d) hs = Leads notes (p + 1) d hs
Fits notes (Take bundle) p d hs = Leads notes (p + 1) d (bundle ∷ hs)
Fits notes (Give bundle) p d [] = ⊥
Fits notes (Give bundle) p d (held ∷ hs) = (held ≡ bundle) × Leads notes (p + 1) d hs
Fits notes (Fork first count) p d hs = Leads notes (p + 1) d hs
Fits notes (Join first count) p d hs = Leads notes (p + 1) d hs
Fits notes End p d hs = (d ≡ 0) × (hs ≡ [])

-- each arm starts with nothing, and each instruction at a noted place fits its shape
pub record IsNoted (code : ProcessCode) (notes : Notes) : Type 0 where
  pub starts : (a : ℕ) → a < length code.entries → Leads notes (get_or code.entries a 0) 0 []
  pub flows : (p d : ℕ) (hs : List Bundle) → Leads notes p d hs
      → (i : Instr) × (slice_get code.instrs p ≡ Some i) × Fits notes i p d hs
