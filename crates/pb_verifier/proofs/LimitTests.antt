-- Tests of limits, at an end of their loops.
use Rattle.std.proofs.Common.{◌≡◌, ◌≢◌, ◌⊎◌, inl, inr, ℕ, zero, suc, ◌+◌, ◌<◌, ◌≤◌, Bool, true, false, eqb, List, []}
use Rattle.std.proofs.Common.{length, get_or, map, Some, refl, sym, ap, ◌∙◌, subst, arith}
use Rattle.std.specs.Prelude.{slice_get, All, AllPairs}
use Rattle.std.proofs.lemmas.List.{get_or_default}
use Rattle.std.proofs.lemmas.Option.{slice_get_within, slice_get-get_or, get_or_from_slice_get}
use Rattle.std.specs.Cmp.Lexicographic.{pointwise}
use Rattle.std.proofs.lemmas.Slice.Eq.{slice_eq-Decides}
use Rattle.std.proofs.lemmas.Bool.{cases_lt}
use Rattle.std.proofs.lemmas.Bool.Decides.{Decides-eqb}
use Rattle.pb_verifier.specs.Limits.{AreNames, IsName}
use Rattle.pb_code.proofs.ListElements.{EachBelow, each_all}
pub use Rattle.pb_code.proofs.ListElements.{read_mapped}

-- what is seen of an element that was read
pub at_mapped : {A B : Type 0} (f : A → B) (xs : List A) (k : ℕ) (x : A) (d : B) → k < length xs → x ≡ get_or xs k x → get_or (map f xs) k d ≡ f x
at_mapped f xs k x d u e = get_or_from_slice_get (map f xs) k (f x) d (read_mapped f xs k x u e)

pub all_from : {A : Type 0} (P : A → Type 0) (xs : List A) → ((k : ℕ) (x : A) → slice_get xs k ≡ Some x → P x) → All P xs
all_from P xs each k d u = each k (get_or xs k d) (slice_get-get_or xs k d u)

pub all_at : {A : Type 0} (P : A → Type 0) (xs : List A) → All P xs → (k : ℕ) (x : A) → slice_get xs k ≡ Some x → P x
all_at P xs all k x e = subst P (get_or_from_slice_get xs k x x e) (all k x (slice_get_within xs k x e))

pub pairs_from : (xs : List (List ℕ)) → ((i j : ℕ) → i < length xs → i < j → j < length xs → get_or xs i [] ≢ get_or xs j []) → AllPairs (λ a b. a ≢ b) xs
pairs_from xs apart i j d u v e =
    let w : i < length xs = omega arith in
    apart i j w u v (get_or_default xs i [] d w ∙ e ∙ sym (get_or_default xs j [] d v))

-- what a comparison of bytes says
pub bytes_differ : (a b : List ℕ) → false ≡ pointwise eqb a b → a ≢ b
bytes_differ a b e same = let wrong : false ≡ true = (slice_eq-Decides Decides-eqb _ _ _ e).1 same in cc

pub bytes_same : (a b : List ℕ) → true ≡ pointwise eqb a b → a ≡ b
bytes_same a b e = (slice_eq-Decides Decides-eqb _ _ _ e).0 refl

-- a name is new among those up to a place, and at the next one
pub new_more : (names : List (List ℕ)) (k n : ℕ) → ((i : ℕ) → k < i → i < n → get_or names k [] ≢ get_or names i []) → get_or names k [] ≢ get_or names n []
    → (i : ℕ) → k < i → i < n + 1 → get_or names k [] ≢ get_or names i []
new_more names k n before here i u v = go (cases_lt i n)
  where
    go : (i < n) ⊎ (n ≤ i) → get_or names k [] ≢ get_or names i []
    go (inl w) = before i u w
    go (inr w) = let e : i ≡ n = omega arith in λ same. here (same ∙ ap (λ (j : ℕ). get_or names j []) e)

pub apart_more : (names : List (List ℕ)) (m k : ℕ) → ((i j : ℕ) → i < k → i < j → j < m → get_or names i [] ≢ get_or names j [])
    → ((j : ℕ) → k < j → j < m → get_or names k [] ≢ get_or names j []) → (i j : ℕ) → i < k + 1 → i < j → j < m → get_or names i [] ≢ get_or names j []
apart_more names m k before here i j u v w = go (cases_lt i k)
  where
    go : (i < k) ⊎ (k ≤ i) → get_or names i [] ≢ get_or names j []
    go (inl x) = before i j x v w
    go (inr x) =
        let e : i ≡ k = omega arith in
        let y : k < j = omega arith in
        λ same. here j y w (sym (ap (λ (n : ℕ). get_or names n []) e) ∙ same)

pub are_names_from : (names : List (List ℕ)) (count n : ℕ) → length names ≡ count → length names ≤ n → EachBelow names n (λ _ name. IsName name)
    → ((i j : ℕ) → i < n → i < j → j < length names → get_or names i [] ≢ get_or names j []) → AreNames count names
are_names_from names count n all u formed apart = record {
  all = all;
  formed = all_from IsName names (each_all names n (λ _ name. IsName name) u formed);
  apart = pairs_from names (λ i j v w x. let y : i < n = omega arith in apart i j y w x);
}

pub none_empty : (n : ℕ) (b : Bool) → b ≡ eqb n 0 → b ≡ false → 1 ≤ n
none_empty zero b e f = let wrong : true ≡ false = sym e ∙ f in cc
none_empty (suc n) b e f = omega arith
