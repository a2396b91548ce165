-- A loop that copies a list, by its views.
use Rattle.std.proofs.Common.{◌≡◌, ℕ, ◌+◌, ◌<◌, ◌≤◌, List, [], ◌∷◌, ◌++◌, map, length, take, get_or, ap, sym}
use Rattle.std.proofs.Common.{◌∙◌}
use Rattle.std.proofs.lemmas.List.{map_more, map-append, take_all}

-- one more element: `x` is the next of `xs`, and `y` has its view
pub copied_more : {X Y Z : Type 0} (f : X → Z) (g : Y → Z) (ys ys' : List Y) (y : Y) (xs : List X)
    (i : ℕ) (x : X)
    → map g ys ≡ map f (take i xs) → i < length xs → x ≡ get_or xs i x → ys' ≡ ys ++ y ∷ [] → g y ≡ f x
    → map g ys' ≡ map f (take (i + 1) xs)
copied_more f g ys ys' y xs i x so_far within here pushed same =
    ap (map g) pushed
    ∙ map-append g ys (y ∷ [])
    ∙ ap (λ zs. zs ++ g y ∷ []) so_far
    ∙ ap (λ z. map f (take i xs) ++ z ∷ []) (same ∙ ap f here)
    ∙ sym (map_more f xs i x within)

-- after the last element
pub copied_all : {X Y Z : Type 0} (f : X → Z) (g : Y → Z) (ys : List Y) (xs : List X) (i : ℕ)
    → map g ys ≡ map f (take i xs) → length xs ≤ i → map g ys ≡ map f xs
copied_all f g ys xs i so_far end = so_far ∙ ap (map f) (take_all i xs end)

-- what a loop has made of all elements, through a slice of them, it has made of the list
pub read_all : {X Y : Type 0} (f : List X → Y) (all xs : List X) (i : ℕ) (y : Y)
    → y ≡ f (take i xs) → length xs ≤ i → xs ≡ all → y ≡ f all
read_all f all xs i y so_far end list = so_far ∙ ap f (take_all i xs end ∙ list)
