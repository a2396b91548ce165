-- Marks that are taken away one after another.
use Rattle.std.proofs.Common.{◌≡◌, ℕ, zero, suc, ◌+◌, ◌<◌, Bool, false, List, [], ◌∷◌, ◌++◌, length, map, set, take}
use Rattle.std.proofs.Common.{drop, refl, ap, ◌∙◌, arith}

wiped : (xs : List Bool) (i : ℕ) → i < length xs → set (map (λ (b : Bool). false) (take i xs) ++ drop i xs) i false ≡
    map (λ (b : Bool). false) (take (suc i) xs) ++ drop (suc i) xs
wiped [] i lt = absurd (omega arith)
wiped (x ∷ xs) zero lt = refl
wiped (x ∷ xs) (suc i) lt = ap (λ (ys : List Bool). false ∷ ys) (wiped xs i (omega arith))

-- one more is away
pub wiped_more : (xs ys : List Bool) (i : ℕ) → i < length xs → ys ≡ map (λ (b : Bool). false) (take i xs) ++ drop i xs
    → set ys i false ≡ map (λ (b : Bool). false) (take (i + 1) xs) ++ drop (i + 1) xs
wiped_more xs ys i lt h =
    let next : suc i ≡ i + 1 = omega arith in
    ap (λ (zs : List Bool). set zs i false) h ∙ (wiped xs i lt ∙ ap (λ (k : ℕ). map (λ (b : Bool). false) (take k xs) ++ drop k xs) next)
