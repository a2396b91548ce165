-- A loop that appends what is made of the elements that pass a test.
use Rattle.std.proofs.Common.{◌≡◌, ℕ, ◌+◌, ◌<◌, Bool, true, false, List, [], ◌∷◌, ◌++◌, map, filter, cond, length, take, get_or, refl}
use Rattle.std.specs.List.{flat_map}
use Rattle.pb_outline.proofs.Walks.{walked_more}

kept_cons : {Y Z : Type 0} (f : Y → Z) (b : Bool) (y : Y) (rest : List Y)
    → map f (cond b (y ∷ rest) rest) ≡ map f (cond b (y ∷ []) []) ++ map f rest
kept_cons f true y rest = refl
kept_cons f false y rest = refl

pub kept_more : {X Y Z : Type 0} (f : Y → Z) (p : Y → Bool) (g : X → Y) (now after : List Z) (xs : List X) (i : ℕ) (x : X)
    → x ≡ get_or xs i x → i < length xs
    → now ≡ map f (filter p (map g (take i xs)))
    → after ≡ now ++ map f (filter p (g x ∷ []))
    → after ≡ map f (filter p (map g (take (i + 1) xs)))
kept_more f p g now after xs i x =
    walked_more (λ y. map f (filter p (g y ∷ []))) (λ ys. map f (filter p (map g ys))) refl
    (λ y ys. kept_cons f (p (g y)) (g y) (filter p (map g ys))) [] now after xs i x

-- one that appends one thing for each element
pub mapped_more : {X Y Z : Type 0} (f : Y → Z) (g : X → Y) (now after : List Z) (xs : List X) (i : ℕ) (x : X)
    → x ≡ get_or xs i x → i < length xs
    → now ≡ map f (map g (take i xs))
    → after ≡ now ++ f (g x) ∷ []
    → after ≡ map f (map g (take (i + 1) xs))
mapped_more f g now after xs i x =
    walked_more (λ y. f (g y) ∷ []) (λ ys. map f (map g ys)) refl (λ y ys. refl) [] now after xs i x

-- and one that appends what is made of each element
pub flat_more : {X Y Z : Type 0} (h : Y → List Z) (g : X → Y) (now after : List Z) (xs : List X) (i : ℕ) (x : X)
    → x ≡ get_or xs i x → i < length xs
    → now ≡ flat_map h (map g (take i xs))
    → after ≡ now ++ h (g x)
    → after ≡ flat_map h (map g (take (i + 1) xs))
flat_more h g now after xs i x =
    walked_more (λ y. h (g y)) (λ ys. flat_map h (map g ys)) refl (λ y ys. refl) [] now after xs i x
