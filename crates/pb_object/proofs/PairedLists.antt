-- Two lists side by side.
use Rattle.std.proofs.Common.{◌≡◌, suc, List, [], ◌∷◌, ◌++◌, length, refl, ap, arith, map}
use Rattle.pb_object.specs.Rows.{side_by_side}

pub side_push : {A B : Type 0} (xs : List A) (ys : List B) (x : A) (y : B) → length xs ≡ length ys → side_by_side (xs
    ++ x ∷ []) (ys ++ y ∷ []) ≡ side_by_side xs ys ++ (x, y) ∷ []
side_push [] [] x y h = refl
side_push [] (b ∷ ys) x y h = absurd (omega (arith, h))
side_push (a ∷ xs) [] x y h = absurd (omega (arith, h))
side_push {A} {B} (a ∷ xs) (b ∷ ys) x y h = ap (λ (ps : List (A × B)). (a, b) ∷ ps) (side_push xs ys x y (let k : suc
    (length xs) ≡ suc (length ys) = h in omega (arith, k)))

pub side_left : {A B : Type 0} (xs : List A) (ys : List B) → length xs ≡ length ys → map (λ p. p.0) (side_by_side xs ys) ≡ xs
side_left [] ys h = refl
side_left (a ∷ xs) [] h = absurd (omega (arith, h))
side_left {A} (a ∷ xs) (b ∷ ys) h = ap (λ (l : List A). a ∷ l) (side_left xs ys (let k : suc (length xs) ≡ suc (length ys) = h in omega (arith, k)))

pub side_right : {A B : Type 0} (xs : List A) (ys : List B) → length xs ≡ length ys → map (λ p. p.1) (side_by_side xs ys) ≡ ys
side_right [] [] h = refl
side_right [] (b ∷ ys) h = absurd (omega (arith, h))
side_right (a ∷ xs) [] h = absurd (omega (arith, h))
side_right {A} {B} (a ∷ xs) (b ∷ ys) h = ap (λ (l : List B). b ∷ l) (side_right xs ys (let k : suc (length xs) ≡ suc (length ys) = h in omega (arith, k)))
