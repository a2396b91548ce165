-- Lists of processes, from which some are taken, and lists of links.
use Rattle.std.proofs.Common.{◌≡◌, ◌⊎◌, inl, inr, ⊎_elim, ℕ, zero, suc, ◌+◌, List, [], ◌∷◌, ◌++◌, length}
use Rattle.std.proofs.Common.{take, drop, Some, refl, ap, ◌∙◌, arith}
use Rattle.std.specs.Prelude.{All, remove, slice_get}
use Rattle.std.proofs.lemmas.List.Elements.{All-append, All-take, All-drop}
use Rattle.pb_base.proofs.Lists.{get_removed}
use Rattle.pb_circles.specs.Links.{IsAmong}

pub among_removed : (xs : List ℕ) (i x q : ℕ) → slice_get xs i ≡ Some x → IsAmong xs q → (q ≡ x → ⊥) → IsAmong (remove xs i) q
among_removed xs i x q at m ne = get_removed xs i m.0 x q at m.1 ne

pub all_removed : {X : Type 0} (P : X → Type 0) (xs : List X) (i : ℕ) → All P xs → All P (remove xs i)
all_removed P xs i all = All-append P (take i xs) (drop (suc i) xs) (All-take P i xs all) (All-drop P (suc i) xs all)

-- what is in a list with one more at its end
pub pushed : {X : Type 0} (xs : List X) (x y : X) (k : ℕ) → slice_get (xs ++ x ∷ []) k ≡ Some y
    → (slice_get xs k ≡ Some y) ⊎ ((k ≡ length xs) × (x ≡ y))
pushed [] x y zero h = inr (refl, cc)
pushed [] x y (suc k) h = absurd cc
pushed (z ∷ xs) x y zero h = inl h
pushed (z ∷ xs) x y (suc k) h = ⊎_elim (λ a. inl a) (λ b. inr (ap suc b.0, b.1)) (pushed xs x y k h)

-- the one at the end
pub at_end : {X : Type 0} (xs : List X) (x : X) → slice_get (xs ++ x ∷ []) (length xs) ≡ Some x
at_end [] x = refl
at_end (z ∷ xs) x = at_end xs x

-- the part of a list from a place on
pub get_dropped : {X : Type 0} (n : ℕ) (xs : List X) (k : ℕ) → slice_get (drop n xs) k ≡ slice_get xs (n + k)
get_dropped zero xs k = let e : k ≡ 0 + k = omega arith in ap (slice_get xs) e
get_dropped (suc n) [] k = refl
get_dropped (suc n) (x ∷ xs) k = let e : suc (n + k) ≡ suc n + k = omega arith in get_dropped n xs k ∙ ap (slice_get (x ∷ xs)) e
