-- The arms of a code, process by process.
use Rattle.std.specs.Prelude.{◌≡◌, ◌≢◌, ◌<◌, ℕ, zero, suc, ◌+◌, List, [], ◌∷◌, ◌++◌, Some, length, slice_get}
use Rattle.pb_base.specs.declared.pick.Pick.{Pick}
use Rattle.pb_code.specs.Code.{ProcessCode}

-- the first n arms of process p
abbrev pub arms_before : (p n : ℕ) → List Pick
arms_before p zero = []
arms_before p (suc n) = arms_before p n ++ record { process = p; arm = n } ∷ []

-- the arms of these processes, which are numbered from p on
abbrev pub arms_from : (p : ℕ) → List ProcessCode → List Pick
arms_from p [] = []
arms_from p (code ∷ processes) = arms_before p (length code.entries) ++ arms_from (p + 1) processes

-- no arm is there twice
abbrev pub AreDifferent : List Pick → Type 0
AreDifferent arms = (i j : ℕ) (a b : Pick) → i < j → slice_get arms i ≡ Some a → slice_get arms j ≡ Some b → a ≢ b
