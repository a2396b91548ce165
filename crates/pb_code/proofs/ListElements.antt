-- What holds of each element of a list, or of the elements of two lists, found out from the first on.
use Rattle.std.proofs.Common.{◌≡◌, ◌⊎◌, inl, inr, ℕ, suc, ◌+◌, ◌<◌, ◌≤◌, List, [], ◌∷◌, ◌++◌, length, get_or, map, Some}
use Rattle.std.proofs.Common.{refl, sym, ap, ◌∙◌, subst, arith}
use Rattle.std.specs.Prelude.{slice_get}
use Rattle.std.specs.Option.{option_map}
use Rattle.std.proofs.lemmas.Option.{slice_get_within, slice_get-map, slice_get_read, slice_get-get_or}
use Rattle.std.proofs.lemmas.Bool.{cases_lt}
use Rattle.std.proofs.lemmas.List.{get_or_append_left}
use Rattle.std.proofs.Math.Seq.{get_or-append_seam}

-- what holds of the first n elements
abbrev pub EachBelow : {A : Type 0} → List A → ℕ → (ℕ → A → Type 0) → Type 0
EachBelow {A = A} xs n Holds = (k : ℕ) (x : A) → k < n → slice_get xs k ≡ Some x → Holds k x

pub same_read : {A : Type 0} (xs : List A) (k : ℕ) (x y : A) → slice_get xs k ≡ Some x → slice_get xs k ≡ Some y → x ≡ y
same_read xs k x y a b = let both : Some x ≡ Some y = sym a ∙ b in cc

pub each_more : {A : Type 0} (xs : List A) (n : ℕ) (x : A) (Holds : ℕ → A → Type 0) → slice_get xs n ≡ Some x →
    EachBelow xs n Holds → Holds n x → EachBelow xs (n + 1) Holds
each_more {A = A} xs n x Holds read before here k y u at = go (cases_lt k n)
  where
    go : (k < n) ⊎ (n ≤ k) → Holds k y
    go (inl v) = before k y v at
    go (inr v) =
        let e : n ≡ k = omega arith in
        let read' : slice_get xs k ≡ Some x = ap (slice_get xs) (sym e) ∙ read in
        subst (λ (m : ℕ). Holds m y) e (subst (λ (z : A). Holds n z) (same_read xs k x y read' at) here)

pub each_all : {A : Type 0} (xs : List A) (n : ℕ) (Holds : ℕ → A → Type 0) → length xs ≤ n → EachBelow xs n Holds → (k
    : ℕ) (x : A) → slice_get xs k ≡ Some x → Holds k x
each_all xs n Holds u before k x read = let w : k < length xs = slice_get_within xs k x read in before k x (omega arith) read

-- an element of a list, seen in the mapped list
pub read_mapped : {A B : Type 0} (f : A → B) (xs : List A) (k : ℕ) (x : A) → k < length xs → x ≡ get_or xs k x → slice_get (map f xs) k ≡ Some (f x)
read_mapped f xs k x u e = slice_get-map f xs k ∙ ap (option_map f) (slice_get_read xs (length xs) k x refl u e)

-- a list with one more element
pub push_more : (xs : List ℕ) (x n : ℕ) (Holds : ℕ → ℕ → Type 0) → length xs ≡ n → ((k : ℕ) → k < n → Holds k (get_or xs k 0)) → Holds n x
    → (k : ℕ) → k < n + 1 → Holds k (get_or (xs ++ x ∷ []) k 0)
push_more xs x n Holds l before here k u = go (cases_lt k n)
  where
    go : (k < n) ⊎ (n ≤ k) → Holds k (get_or (xs ++ x ∷ []) k 0)
    go (inl v) = subst (Holds k) (sym (get_or_append_left xs (x ∷ []) 0 k (omega arith))) (before k v)
    go (inr v) =
        let e : n ≡ k = omega arith in
        subst (λ (m : ℕ). Holds m (get_or (xs ++ x ∷ []) m 0)) (l ∙ e) (subst (Holds (length xs)) (sym
        (get_or-append_seam xs x [] 0)) (subst (λ (m : ℕ). Holds m x) (sym l) here))

-- ---- two lists

pub same_by_get : {X : Type 0} (xs ys : List X) → length xs ≡ length ys → ((k : ℕ) → k < length xs → slice_get xs k ≡ slice_get ys k) → xs ≡ ys
same_by_get [] [] l h = refl
same_by_get [] (y ∷ ys) l h = absurd (omega arith)
same_by_get (x ∷ xs) [] l h = absurd (omega arith)
same_by_get (x ∷ xs) (y ∷ ys) l h =
    let first : Some x ≡ Some y = h 0 (omega arith) in
    let first' : x ≡ y = cc in
    let l' : length xs ≡ length ys = omega arith in
    let rest : xs ≡ ys = same_by_get xs ys l' (λ k u. h (suc k) (omega arith)) in
    cc

-- the first n elements are the same
abbrev pub AlikeBelow : {A : Type 0} → List A → List A → ℕ → Type 0
AlikeBelow xs ys n = (k : ℕ) → k < n → slice_get xs k ≡ slice_get ys k

pub alike_more : {A : Type 0} (xs ys : List A) (n : ℕ) → AlikeBelow xs ys n → slice_get xs n ≡ slice_get ys n → AlikeBelow xs ys (n + 1)
alike_more xs ys n before here k u = go (cases_lt k n)
  where
    go : (k < n) ⊎ (n ≤ k) → slice_get xs k ≡ slice_get ys k
    go (inl v) = before k v
    go (inr v) = let e : n ≡ k = omega arith in subst (λ m. slice_get xs m ≡ slice_get ys m) e here

pub alike_all : {A : Type 0} (xs ys : List A) (n : ℕ) → length xs ≡ length ys → length xs ≤ n → AlikeBelow xs ys n → xs ≡ ys
alike_all xs ys n l u alike = same_by_get xs ys l (λ k v. alike k (omega arith))

-- elements that are read, and are the same
pub alike_read : {A : Type 0} (xs ys : List A) (k : ℕ) (x y : A) → slice_get xs k ≡ Some x → slice_get ys k ≡ Some y → x ≡ y → slice_get xs k ≡ slice_get ys k
alike_read xs ys k x y a b e = cc

pub read_alike : {A : Type 0} (xs ys : List A) (k : ℕ) (x y : A) → slice_get xs k ≡ Some x → slice_get ys k ≡ Some y → slice_get xs k ≡ slice_get ys k → x ≡ y
read_alike xs ys k x y a b e = let same : Some x ≡ Some y = sym a ∙ e ∙ b in cc

-- numbers that are the same by index
pub alike_numbers : (xs ys : List ℕ) (n : ℕ) → length xs ≡ length ys → length xs ≤ n → ((k : ℕ) → k < n → get_or xs k 0 ≡ get_or ys k 0) → xs ≡ ys
alike_numbers xs ys n l u alike =
    same_by_get xs ys l (λ k v.
    let w : k < length ys = omega arith in
    slice_get-get_or xs k 0 v ∙ ap (λ (m : ℕ). Some m) (alike k (omega arith)) ∙ sym (slice_get-get_or ys k 0 w))
