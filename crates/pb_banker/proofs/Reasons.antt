-- The first pair of which something does not hold.
use Rattle.std.proofs.Common.{◌≡◌, ℕ, List, take, refl, All, Some, slice_get}
use Rattle.pb_base.specs.declared.pair.Pair.{Pair}
use Rattle.pb_banker.specs.Jobs.{IsFirstWithout}

pub first_without : (P : Pair → Type 0) (pairs : List Pair) (i : ℕ) (x : Pair) → slice_get pairs i ≡ Some x → All P (take i pairs)
    → ¬ P x → IsFirstWithout P pairs x.resource
first_without P pairs i x at before fails =
    record { place = i; pair = x; at = at; before = before; fails = fails; is = refl }
