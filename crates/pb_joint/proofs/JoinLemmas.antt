-- Which resources a tree adds to those of others.
use Rattle.std.proofs.Common.{◌≡◌, ◌≢◌, ◌∙◌, ◌⊎◌, inl, inr, ℕ, ◌+◌, ◌<◌, ◌≤◌, List, [], ◌∷◌, ◌++◌, length, take, map, get_or, ap, sym, subst, arith}
use Rattle.std.specs.Prelude.{Any}
use Rattle.std.proofs.lemmas.List.{append_assoc, get_or-map, map-append, length-append, length-map, take-map, take_at}
use Rattle.pb_base.proofs.Cases.{same_or_not}
use Rattle.pb_tree.specs.Syntax.{ResourceSyntax}
use Rattle.pb_joint.specs.Joined.{AddsResources, IsDeclared, again, new}

-- one more element that has not what is looked for
pub none_more : {X Y : Type 0} (f : X → Y) (P : Y → Type 0) (xs : List X) (i : ℕ) (x : X) → i < length xs → x ≡ get_or xs i x
    → ((k : ℕ) (d : Y) → k < i → ¬ P (get_or (map f xs) k d)) → ¬ P (f x)
    → (k : ℕ) (d : Y) → k < i + 1 → ¬ P (get_or (map f xs) k d)
none_more f P xs i x within here before isnt k d below = go (same_or_not k i)
  where
    go : (k ≡ i) ⊎ (k ≢ i) → ¬ P (get_or (map f xs) k d)
    go (inl same) = λ is. isnt (subst P (ap (λ n. get_or (map f xs) n d) same ∙ get_or-map f xs i x d within ∙ ap f (sym here)) is)
    go (inr other) = before k d (omega (arith, below, other))

-- an element that has what is looked for
pub any_at : {X Y : Type 0} (f : X → Y) (P : Y → Type 0) (xs : List X) (i : ℕ) (x : X) → i < length xs → x ≡ get_or xs i x
    → P (f x) → Any P (map f xs)
any_at f P xs i x within here is =
    let long = length-map xs f in
    (i, f x, omega (arith, long, within), get_or-map f xs i x (f x) within ∙ ap f (sym here), is)

-- none has it
pub none_at_all : {X Y : Type 0} (f : X → Y) (P : Y → Type 0) (xs : List X) (i : ℕ) → length xs ≤ i
    → ((k : ℕ) (d : Y) → k < i → ¬ P (get_or (map f xs) k d)) → ¬ Any P (map f xs)
none_at_all f P xs i end none = λ any.
    let long = length-map xs f in
    let within = any.2 in
    none any.0 any.1 (omega (arith, long, within, end)) (subst P (sym any.3) any.4)

-- the first resources are those that were there
there_first : {X : Type 0} (f : X → ResourceSyntax) (old all : List X) (added : List ResourceSyntax) (n : ℕ) → n ≡ length old
    → map f all ≡ map f old ++ added → map f (take n all) ≡ map f old
there_first f old all added n many so_far =
    sym (take-map f n all) ∙ ap (λ l. take n l) so_far
    ∙ take_at (map f old) added n (length-map old f ∙ sym many)

-- one more declared resource
pub adds_more : {X : Type 0} (f : X → ResourceSyntax) (old all next declared : List X) (r : X) (n : ℕ) → n ≡ length old
    → ((added : List ResourceSyntax) × AddsResources (map f old) (map f declared) added × (map f all ≡ map f old ++ added))
    → (IsDeclared (f r) (map f (take n all)) × (next ≡ all))
    ⊎ ((¬ IsDeclared (f r) (map f (take n all))) × (next ≡ all ++ r ∷ []))
    → (added : List ResourceSyntax) × AddsResources (map f old) (map f (declared ++ r ∷ [])) added
    × (map f next ≡ map f old ++ added)
adds_more f old all next declared r n many (added, adds, so_far) (inl (is, same)) = (
  added,
  subst (λ l. AddsResources (map f old) l added) (sym (map-append f declared (r ∷ [])))
      (again (map f declared) added (f r) adds (subst (IsDeclared (f r)) (there_first f old all added n many so_far) is)),
  ap (map f) same ∙ so_far,
)
adds_more f old all next declared r n many (added, adds, so_far) (inr (isnt, same)) = (
  added ++ f r ∷ [],
  subst (λ l. AddsResources (map f old) l (added ++ f r ∷ [])) (sym (map-append f declared (r ∷ [])))
      (new (map f declared) added (f r) adds
      (λ is. isnt (subst (IsDeclared (f r)) (sym (there_first f old all added n many so_far)) is))),
  ap (map f) same ∙ map-append f all (r ∷ []) ∙ ap (λ l. l ++ f r ∷ []) so_far ∙ append_assoc (map f old) added (f r ∷ []),
)

-- there are still as many as there were
pub still_there : {X : Type 0} (f : X → ResourceSyntax) (old all : List X) (n : ℕ) → n ≡ length old
    → ((added : List ResourceSyntax) × (P : Type 0) × P × (map f all ≡ map f old ++ added)) → n ≤ length all
still_there f old all n many (added, P, is, so_far) =
    let a = length-map all f in
    let o = length-map old f in
    let s = ap length so_far in
    let t = length-append (map f old) added in
    omega (arith, many, a, o, s, t)
