-- The cause of least offset among several.
use Rattle.std.proofs.Common.{◌≡◌, ℕ, ◌+◌, ◌<◌, ◌≤◌, List, length, take, Option, Some, None}
use Rattle.std.proofs.Common.{◌⊎◌, inl, inr, arith, ap, sym, ◌∙◌, subst, refl}
use Rattle.std.specs.Prelude.{slice_get}
use Rattle.std.proofs.lemmas.Bool.{cases_lt}
use Rattle.std.proofs.lemmas.Bool.Decides.{leb_tells}
use Rattle.std.proofs.lemmas.Option.{slice_get_within}
use Rattle.pb_names.specs.Causes.{Causes, Either, Among}
use Rattle.pb_names.specs.Search.{IsFirst, IsFree, earlier_of}
use Rattle.pb_names.specs.declared.causes.Cause.{Cause}

-- there is none
pub first_none : (P : Causes) → ((c : Cause) → P c → ⊥) → IsFirst P None
first_none P never = record {
  stands = λ c is. absurd (cc);
  least = λ c other is h. absurd (cc);
  none = λ is c h. never c h;
}

-- there is one, and all others are at its offset or later
pub first_one : (P : Causes) (one : Cause) → P one → ((c : Cause) → P c → one.at ≤ c.at) → IsFirst P (Some one)
first_one P one here all = record {
  stands = λ c is. let e : one ≡ c = cc in subst P e here;
  least = λ c other is h. let e : one ≡ c = cc in subst (λ x. x.at ≤ other.at) e (all other h);
  none = λ is. absurd (cc);
}

-- for the same causes by other words
pub first_same : {P : Causes} (Q : Causes) {o : Option Cause}
    → ((c : Cause) → P c → Q c) → ((c : Cause) → Q c → P c) → IsFirst P o → IsFirst Q o
first_same Q to from first = record {
  stands = λ c is. to c (first.stands c is);
  least = λ c other is h. first.least c other is (from other h);
  none = λ is c h. first.none is c (from c h);
}

-- the earlier of two is the first of both
pub first_either : {P Q : Causes} (a b : Option Cause) → IsFirst P a → IsFirst Q b → IsFirst (Either P Q) (earlier_of a b)
first_either None None p q = first_none _ (λ c. elim [ inl h ↦ p.none refl c h | inr h ↦ q.none refl c h ])
first_either None (Some y) p q =
    first_one _ y (inr (q.stands y refl))
    (λ c. elim [ inl h ↦ absurd (p.none refl c h) | inr h ↦ q.least y c refl h ])
first_either (Some x) None p q =
    first_one _ x (inl (p.stands x refl))
    (λ c. elim [ inl h ↦ p.least x c refl h | inr h ↦ absurd (q.none refl c h) ])
first_either {P = P} {Q = Q} (Some x) (Some y) p q = elim (leb_tells x.at y.at) [
  | inl h ↦
      rw h.0 (first_one (Either P Q) x (inl (p.stands x refl))
      (λ c. elim [ inl h ↦ p.least x c refl h | inr h' ↦ (let l = q.least y c refl h' in let m = h.1 in omega arith) ]))
  | inr h ↦
      rw h.0 (first_one (Either P Q) y (inr (q.stands y refl))
      (λ c. elim [ inl h' ↦ (let l = p.least x c refl h' in let m = h.1 in omega arith) | inr h ↦ q.least y c refl h ]))
]

-- no causes of either kind are no causes of each
pub free_left : {P Q : Causes} → IsFree (Either P Q) → IsFree P
free_left none = record { free = λ c h. none.free c (inl h) }

pub free_right : {P Q : Causes} → IsFree (Either P Q) → IsFree Q
free_right none = record { free = λ c h. none.free c (inr h) }

-- ---- the causes of the elements of a list

-- those of its first n elements
abbrev pub AmongBelow : {T : Type 0} → (List T → T → Causes) → List T → ℕ → Causes
AmongBelow of xs n cause = (found : Among of xs cause) × (found.place < n)

-- at the next element
at_place : {T : Type 0} (of : List T → T → Causes) (xs : List T) (i k : ℕ) (x y : T) (c : Cause)
    → slice_get xs i ≡ Some x → slice_get xs k ≡ Some y → k ≡ i → of (take k xs) y c → of (take i xs) x c
at_place of xs i k x y c here there same wrong =
    let e : y ≡ x = let e : Some y ≡ Some x = sym there ∙ ap (slice_get xs) same ∙ here in cc in
    subst (λ z. of (take i xs) z c) e (subst (λ j. of (take j xs) y c) same wrong)

-- one more element
pub among_more : {T : Type 0} (of : List T → T → Causes) (xs : List T) (i : ℕ) (x : T) (a b : Option Cause)
    → slice_get xs i ≡ Some x → IsFirst (AmongBelow of xs i) a → IsFirst (of (take i xs) x) b
    → IsFirst (AmongBelow of xs (i + 1)) (earlier_of a b)
among_more {T} of xs i x a b here before at_i =
    first_same (AmongBelow of xs (i + 1)) to from (first_either a b before at_i)
  where
    to : (c : Cause) → Either (AmongBelow of xs i) (of (take i xs) x) c → AmongBelow of xs (i + 1) c
    to c (inl h) = (h.0, omega (arith, h.1))
    to c (inr h) = (record { place = i; element = x; here = here; wrong = h }, omega arith)

    split : (c : Cause) (h : AmongBelow of xs (i + 1) c) → (h.0.place < i) ⊎ (i ≤ h.0.place)
        → Either (AmongBelow of xs i) (of (take i xs) x) c
    split c h (inl less) = inl (h.0, less)
    split c h (inr most) =
        inr (at_place of xs i h.0.place x h.0.element c here h.0.here (omega (arith, h.1)) h.0.wrong)

    from : (c : Cause) → AmongBelow of xs (i + 1) c → Either (AmongBelow of xs i) (of (take i xs) x) c
    from c h = split c h (cases_lt h.0.place i)

-- all elements
pub among_all : {T : Type 0} (of : List T → T → Causes) (xs : List T) (n : ℕ) (o : Option Cause)
    → length xs ≤ n → IsFirst (AmongBelow of xs n) o → IsFirst (Among of xs) o
among_all of xs n o end =
    first_same (Among of xs) (λ c h. h.0)
    (λ c h. (h, omega (arith, slice_get_within xs h.place h.element h.here)))

-- if no element has a cause, one element has none
pub free_at : {T : Type 0} (of : List T → T → Causes) (xs : List T) (i : ℕ) (x : T)
    → slice_get xs i ≡ Some x → IsFree (Among of xs) → IsFree (of (take i xs) x)
free_at of xs i x here none =
    record { free = λ c h. none.free c (record { place = i; element = x; here = here; wrong = h }) }
