-- Lists and optional values, as several crates need them.
use Rattle.std.proofs.Common.{◌≡◌, ℕ, zero, suc, ◌+◌, ◌<◌, ◌≤◌, List, [], ◌∷◌, ◌++◌, length, get_or, map, take, drop}
use Rattle.std.proofs.Common.{◌-◌, Some, option_map, refl, sym, ap, ◌∙◌, subst, arith, add-one, append_assoc}
use Rattle.std.specs.Prelude.{All, remove, slice_get}
use Rattle.std.proofs.Math.Seq.{drop-cons, take-append_seam}
use Rattle.std.proofs.lemmas.List.{length-drop, take-append-drop, take_all}
use Rattle.std.proofs.lemmas.Option.{slice_get-get_or, slice_get-map}

-- what an index finds
pub item_at : {X : Type 0} (xs : List X) (i : ℕ) (x : X) → i < length xs → x ≡ get_or xs i x → slice_get xs i ≡ Some x
item_at xs i x lt at = slice_get-get_or xs i x lt ∙ ap Some (sym at)

-- a list that was lent whole, with all its elements
pub restored : {X : Type 0} (n : ℕ) (xs ws : List X) → length ws ≡ n → take n (ws ++ drop (length ws) xs) ≡ ws
restored n xs ws e = rw (← e) (take-append_seam ws (drop (length ws) xs))

-- what is found twice is one
pub some_same : {X : Type 0} {x y : X} → Some x ≡ Some y → x ≡ y
some_same e = cc

-- an index within a list finds something
pub get_some : {X : Type 0} (xs : List X) (i : ℕ) → i < length xs → (x : X) × (slice_get xs i ≡ Some x)
get_some [] i u = absurd (omega arith)
get_some (x ∷ xs) zero u = (x, refl)
get_some (x ∷ xs) (suc i) u = get_some xs i (omega arith)

-- what is found in a list is found in a longer one
pub get_left : {X : Type 0} (xs ys : List X) (i : ℕ) (x : X) → slice_get xs i ≡ Some x
    → slice_get (xs ++ ys) i ≡ Some x
get_left [] ys i x h = cc
get_left (y ∷ xs) ys zero x h = h
get_left (y ∷ xs) ys (suc i) x h = get_left xs ys i x h

-- what is found in a mapped list is made of what is found in the list
pub get_mapped : {X Y : Type 0} (f : X → Y) (xs : List X) (i : ℕ) (y : Y) → slice_get (map f xs) i ≡ Some y
    → (x : X) × (slice_get xs i ≡ Some x) × (f x ≡ y)
get_mapped f [] i y h = cc
get_mapped f (x ∷ xs) zero y h = (x, refl, cc)
get_mapped f (x ∷ xs) (suc i) y h = get_mapped f xs i y h

-- an element that a loop has read has its view at its place
pub view_read : {S T : Type 0} (view : S → T) (all xs : List S) (i : ℕ) (x : S)
    → xs ≡ all → i < length xs → x ≡ get_or xs i x → slice_get (map view all) i ≡ Some (view x)
view_read view all xs i x list below here =
    ap (λ ys. slice_get (map view ys) i) (sym list)
    ∙ slice_get-map view xs i ∙ ap (option_map view) (item_at xs i x below here)

-- an element after those before it
pub take_next : {X : Type 0} (xs : List X) (i : ℕ) (x : X) → slice_get xs i ≡ Some x
    → take (i + 1) xs ≡ take i xs ++ x ∷ []
take_next xs i x h = rw add-one (next xs i x h)
  where
    next : {X : Type 0} (xs : List X) (i : ℕ) (x : X) → slice_get xs i ≡ Some x
        → take (suc i) xs ≡ take i xs ++ x ∷ []
    next [] i x h = cc
    next (y ∷ xs) zero x h = let e : y ≡ x = cc in cc
    next (y ∷ xs) (suc i) x h = ap (λ ys. y ∷ ys) (next xs i x h)

-- an item measures at most what its list measures, as a loop reads it
pub item_within : {X : Type 0} (size : X → ℕ) (total : List X → ℕ) (all xs : List X) (i : ℕ) (x : X)
    → ((y : X) (ys : List X) → size y + total ys ≤ total (y ∷ ys))
    → xs ≡ all → x ≡ get_or xs i x → i < length xs
    → size x ≤ total all
item_within {X} size total all xs i x grows list here h = omega (arith, within xs i h, ap size here, ap total list)
  where
    within : (xs : List X) (i : ℕ) → i < length xs → size (get_or xs i x) ≤ total xs
    within [] i h = absurd (omega arith)
    within (y ∷ ys) zero h = omega (arith, grows y ys)
    within (y ∷ ys) (suc i) h = omega (arith, grows y ys, within ys i (omega arith))

-- four lists that were put after a list, one after another
pub four_behind : {X : Type 0} (old a b c d one two three four : List X)
    → one ≡ old ++ a → two ≡ one ++ b → three ≡ two ++ c → four ≡ three ++ d
    → four ≡ old ++ (a ++ b ++ c ++ d)
four_behind {X} old a b c d one two three four first second third fourth =
    fourth
    ∙ ap (λ (t : List X). t ++ d)
    (third ∙ ap (λ (t : List X). t ++ c) (second ∙ ap (λ (t : List X). t ++ b) first))
    ∙ simp append_assoc

-- bytes, parted at one of them
pub split_at : (bytes : List ℕ) (i b : ℕ) → i < length bytes → get_or bytes i 0 ≡ b → take i bytes ++ b ∷ drop (i + 1) bytes ≡ bytes
split_at bytes i b lt e =
    let n : i + 1 ≡ suc i = omega arith in
    ap (λ c. take i bytes ++ c ∷ drop (i + 1) bytes) (sym e)
    ∙ (ap (λ k. take i bytes ++ get_or bytes i 0 ∷ drop k bytes) n
    ∙ (ap (λ (xs : List ℕ). take i bytes ++ xs) (sym (drop-cons bytes i 0 lt)) ∙ take-append-drop i bytes))

-- what is true of each is true of one that is read
pub all_at : {X : Type 0} (P : X → Type 0) (xs : List X) (k : ℕ) (x : X) → All P xs → slice_get xs k ≡ Some x → P x
all_at P [] k x all h = absurd cc
all_at P (y ∷ xs) zero x all h = let e : y ≡ x = cc in subst P e (all 0 y (omega arith))
all_at P (y ∷ xs) (suc k) x all h = all_at P xs k x (λ j d u. all (suc j) d (omega (arith, u))) h

-- what is in a list stays there if another is taken out
pub get_removed : (xs : List ℕ) (i k x q : ℕ) → slice_get xs i ≡ Some x → slice_get xs k ≡ Some q → (q ≡ x → ⊥)
    → (j : ℕ) × (slice_get (remove xs i) j ≡ Some q)
get_removed [] i k x q at e ne = absurd cc
get_removed (y ∷ xs) zero zero x q at e ne = absurd (ne cc)
get_removed (y ∷ xs) zero (suc k) x q at e ne = (k, e)
get_removed (y ∷ xs) (suc i) zero x q at e ne = (0, e)
get_removed (y ∷ xs) (suc i) (suc k) x q at e ne = let r = get_removed xs i k x q at e ne in (suc r.0, r.1)

-- what is after a place is all that follows, by its length
pub take_behind : (text : List ℕ) (n : ℕ) → take (length text - n) (drop n text) ≡ drop n text
take_behind text n = let many = length-drop n text in take_all (length text - n) (drop n text) (omega (arith, many))
