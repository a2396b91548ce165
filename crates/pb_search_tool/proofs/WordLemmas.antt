-- Whether some word passes a test.
use Rattle.std.proofs.Common.{◌≡◌, ◌||◌, List, [], ◌∷◌, map, refl, ap}
use Rattle.std.specs.Prelude.{Bool}
use Rattle.std.specs.List.{list_any}

-- a test of what is seen of each element
pub any_mapped : {X Y : Type 0} (f : Y → Bool) (seen : X → Y) (xs : List X) → list_any (λ x. f (seen x)) xs ≡ list_any f (map seen xs)
any_mapped f seen [] = refl
any_mapped f seen (x ∷ xs) = ap (λ (b : Bool). f (seen x) || b) (any_mapped f seen xs)
