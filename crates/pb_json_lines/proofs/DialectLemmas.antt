-- A test of each of the texts in a list.
use Rattle.std.proofs.Common.{◌≡◌, Bool, ◌||◌, List, [], ◌∷◌, map, refl, ap}
use Rattle.std.specs.List.{list_any}

-- an element of a list of views passes a test if the view of one of the list does
pub any_mapped : {X Y : Type 0} (test : Y → Bool) (view : X → Y) (xs : List X)
    → list_any (λ x. test (view x)) xs ≡ list_any test (map view xs)
any_mapped test view [] = refl
any_mapped test view (x ∷ xs) = ap (λ b. test (view x) || b) (any_mapped test view xs)
