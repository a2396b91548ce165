-- Parts of a list, one for each number below another.
use Rattle.std.specs.Prelude.{◌≡◌, ℕ, zero, suc, List, [], ◌++◌}

-- the parts one after another
abbrev pub parts_below : {X : Type 0} → (ℕ → List X) → ℕ → List X
parts_below part zero = []
parts_below part (suc n) = parts_below part n ++ part n

-- the list has such a part for each number below n, one after another
abbrev pub ArePartsBelow : {X : Type 0} → (ℕ → List X → Type 0) → ℕ → List X → Type 0
ArePartsBelow IsPart zero all = all ≡ []
ArePartsBelow {X = X} IsPart (suc n) all =
    (before : List X) × (last : List X) × (all ≡ before ++ last) × ArePartsBelow IsPart n before × IsPart n last
