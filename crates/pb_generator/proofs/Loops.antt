-- Loops that write something for each element of a list.
use Rattle.std.proofs.Common.{◌≡◌, ℕ, ◌+◌, ◌<◌, ◌≤◌, List, [], ◌∷◌, ◌++◌, length, map, take, get_or, arith}
use Rattle.std.proofs.Common.{ap, sym, subst, ◌∙◌}
use Rattle.std.proofs.Math.ListN.{get_or-map}
use Rattle.std.proofs.lemmas.List.{length-map, map_more, map-append, take_all}
use Rattle.std.specs.Prelude.{All}

-- one more element: `x` is the next of `xs`, and what is written for it is `z`
pub more : {X Y Z : Type 0} (f : X → Y) (h : Y → Z) (zs zs' : List Z) (z : Z) (xs : List X) (i : ℕ) (x : X)
    → zs ≡ map h (map f (take i xs)) → i < length xs → x ≡ get_or xs i x → zs' ≡ zs ++ z ∷ [] → z ≡ h (f x)
    → zs' ≡ map h (map f (take (i + 1) xs))
more f h zs zs' z xs i x so_far within here pushed same =
    pushed
    ∙ ap (λ front. front ++ z ∷ []) so_far
    ∙ ap (λ y. map h (map f (take i xs)) ++ y ∷ []) (same ∙ ap (λ y. h (f y)) here)
    ∙ sym (map-append h (map f (take i xs)) (f (get_or xs i x) ∷ []))
    ∙ ap (map h) (sym (map_more f xs i x within))

-- the same if what is written is seen by its view
pub more_seen : {X Y Z W : Type 0} (f : X → Y) (h : Y → Z) (g : W → Z) (ws ws' : List W) (w : W) (xs : List X)
    (i : ℕ) (x : X)
    → map g ws ≡ map h (map f (take i xs)) → i < length xs → x ≡ get_or xs i x → ws' ≡ ws ++ w ∷ [] → g w ≡ h (f x)
    → map g ws' ≡ map h (map f (take (i + 1) xs))
more_seen f h g ws ws' w xs i x so_far within here pushed same =
    more f h (map g ws) (map g ws') (g w) xs i x so_far within here (ap (map g) pushed ∙ map-append g ws (w ∷ [])) same

-- the same if one function says what is written for an element
pub more_written : {X Z : Type 0} (f : X → Z) (zs zs' : List Z) (z : Z) (xs : List X) (i : ℕ) (x : X)
    → zs ≡ map f (take i xs) → i < length xs → x ≡ get_or xs i x → zs' ≡ zs ++ z ∷ [] → z ≡ f x
    → zs' ≡ map f (take (i + 1) xs)
more_written f zs zs' z xs i x so_far within here pushed same =
    pushed
    ∙ ap (λ front. front ++ z ∷ []) so_far
    ∙ ap (λ y. map f (take i xs) ++ y ∷ []) (same ∙ ap f here)
    ∙ sym (map_more f xs i x within)

-- all elements were written
pub each_written : {X Z : Type 0} (f : X → Z) (zs : List Z) (xs all : List X) (i : ℕ)
    → zs ≡ map f (take i xs) → length xs ≤ i → xs ≡ all → zs ≡ map f all
each_written f zs xs all i so_far end same = so_far ∙ ap (map f) (take_all i xs end ∙ same)

-- what holds of each element holds of the one that was read
pub at_read : {X Y : Type 0} (f : X → Y) (P : Y → Type 0) (xs ys : List X) (i : ℕ) (x : X)
    → ys ≡ xs → x ≡ get_or ys i x → i < length ys → All P (map f xs) → P (f x)
at_read f P xs ys i x same here within all =
    let known : All P (map f ys) = subst (λ zs. All P (map f zs)) (sym same) all in
    let l : i < length (map f ys) = omega (arith, length-map ys f) in
    subst P (get_or-map f ys i x ∙ ap f (sym here)) (known i (f x) l)
