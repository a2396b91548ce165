-- Which picks one is drawn from.
use Rattle.std.specs.Prelude.{◌≡◌, ℕ, ◌<◌, ◌⊎◌, List, [], ◌∷◌, All, Contains, ⊤}
use Rattle.pb_base.specs.declared.pick.Pick.{Pick}
use Rattle.pb_base.specs.Steppers.{State}
use Rattle.pb_code.specs.Code.{CodeProcess}
use Rattle.pb_code.specs.Whole.{Code}
use Rattle.pb_machine.specs.Looks.{CanStep}

-- the pick is of an earlier process, or of an earlier arm of the same
abbrev pub IsBefore : (pick : Pick) → (process arm : ℕ) → Type 0
IsBefore pick process arm = (pick.process < process) ⊎ ((pick.process ≡ process) × (pick.arm < arm))

-- each pick is before those that follow it
abbrev pub AreInOrder : List Pick → Type 0
AreInOrder [] = ⊤
AreInOrder (pick ∷ picks) = All (λ later. IsBefore pick later.process later.arm) picks × AreInOrder picks

-- all candidates and no others, in the order of their processes and then of their arms
pub record AreCandidates (code : Code) (s : State CodeProcess) (picks : List Pick) : Type 0 where
  pub each : All (CanStep code s) picks
  pub all : (pick : Pick) → CanStep code s pick → Contains picks pick
  pub order : AreInOrder picks

-- the same of the picks before this arm
pub record AreCandidatesBefore (code : Code) (s : State CodeProcess) (process arm : ℕ) (picks : List Pick) : Type 0 where
  pub each : All (CanStep code s) picks
  pub before : All (λ pick. IsBefore pick process arm) picks
  pub all : (pick : Pick) → CanStep code s pick → IsBefore pick process arm → Contains picks pick
  pub order : AreInOrder picks
