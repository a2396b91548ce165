-- The operands on top of a stack, by the place where they lie in memory.
use Rattle.std.proofs.Common.{◌≡◌, ◌∙◌, ℕ, ℤ, pos, ◌-◌, ◌<◌, List, [], ◌∷◌, length, get_or, reverse, refl, ap, arith}
use Rattle.std.proofs.lemmas.List.{get_or-reverse, length-reverse}

-- a stack with an operand is that one and the rest
topped : (stack : List ℤ) → 0 < length stack → (rest : List ℤ) × (stack ≡ get_or stack 0 (pos 0) ∷ rest)
topped [] h = absurd omega (arith, h)
topped (v ∷ rest) h = (rest, refl)

-- and one with two
topped_twice : (stack : List ℤ) → 1 < length stack
    → (rest : List ℤ) × (stack ≡ get_or stack 0 (pos 0) ∷ get_or stack 1 (pos 0) ∷ rest)
topped_twice [] h = absurd omega (arith, h)
topped_twice (w ∷ []) h = absurd omega (arith, h)
topped_twice (w ∷ v ∷ rest) h = (rest, refl)

-- the operand at a depth
at_depth : (xs : List ℤ) (k : ℕ) → k < length xs → get_or (reverse xs) k (pos 0) ≡ get_or xs (length xs - 1 - k) (pos 0)
at_depth xs k lt = get_or-reverse xs k (pos 0) lt

-- the last operand is on top
pub last_on_top : (xs : List ℤ) → 0 < length xs → (rest : List ℤ) × (reverse xs ≡ get_or xs (length xs - 1) (pos 0) ∷ rest)
last_on_top xs h =
    let many = length-reverse xs in
    let split = topped (reverse xs) (omega (arith, h, many)) in
    let place : length xs - 1 - 0 ≡ length xs - 1 = omega arith in
    let top = at_depth xs 0 h ∙ ap (λ (k : ℕ). get_or xs k (pos 0)) place in
    (split.0, split.1 ∙ ap (λ (v : ℤ). v ∷ split.0) top)

-- and the one before it under it
pub last_two_on_top : (xs : List ℤ) → 1 < length xs
    → (rest : List ℤ) × (reverse xs ≡ get_or xs (length xs - 1) (pos 0) ∷ get_or xs (length xs - 2) (pos 0) ∷ rest)
last_two_on_top xs h =
    let many = length-reverse xs in
    let split = topped_twice (reverse xs) (omega (arith, h, many)) in
    let first : length xs - 1 - 0 ≡ length xs - 1 = omega arith in
    let second : length xs - 1 - 1 ≡ length xs - 2 = omega arith in
    let top = at_depth xs 0 (omega (arith, h)) ∙ ap (λ (k : ℕ). get_or xs k (pos 0)) first in
    let under = at_depth xs 1 h ∙ ap (λ (k : ℕ). get_or xs k (pos 0)) second in (
      split.0,
      split.1 ∙ (ap (λ (w : ℤ). w ∷ get_or (reverse xs) 1 (pos 0) ∷ split.0) top
          ∙ ap (λ (v : ℤ). get_or xs (length xs - 1) (pos 0) ∷ v ∷ split.0) under),
    )
