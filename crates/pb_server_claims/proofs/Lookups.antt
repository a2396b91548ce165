-- What is seen of an element that was read, by its number.
use Rattle.std.proofs.Common.{◌≡◌, ◌∙◌, ℕ, ◌<◌, List, length, get_or, map, ap, arith, refl, sym}
use Rattle.std.proofs.lemmas.List.{get_or-map, length-map}

pub read_at : {A B : Type 0} (f : A → B) (xs ys : List A) (i : ℕ) (x : A) (d : B) → xs ≡ ys → i < length xs
    → x ≡ get_or xs i x → f x ≡ get_or (map f ys) i d
read_at {A} f xs ys i x d same within at =
    ap f at ∙ sym (get_or-map f xs i x d within) ∙ ap (λ (l : List A). get_or (map f l) i d) same

-- by way of another view
pub read_through : {A B C : Type 0} (f : A → B) (g : B → C) (xs ys : List A) (i : ℕ) (x : A) (d : C) → xs ≡ ys
    → i < length xs → x ≡ get_or xs i x → g (f x) ≡ get_or (map g (map f ys)) i d
read_through {A} f g xs ys i x d same within at =
    let long = length-map xs f in
    ap g (read_at f xs xs i x (f x) refl within at)
    ∙ sym (get_or-map g (map f xs) i (f x) d (omega (arith, long, within)))
    ∙ ap (λ (l : List A). get_or (map g (map f l)) i d) same
