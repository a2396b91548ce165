-- Names: the test of a word.
use Rattle.std.proofs.Common.{◌≡◌, ◌⊎◌, ◌↔◌, inl, inr, ℕ, zero, suc, ◌<◌, Bool, true, false, not, ◌&&◌, ◌||◌, ltb}
use Rattle.std.proofs.Common.{List, [], ◌∷◌, length, get_or, refl, sym, arith}
use Rattle.std.specs.Prelude.{All, Contains, EachIndex}
use Rattle.std.specs.Char.{is_ascii_alphabetic}
use Rattle.std.specs.Str.{bytes_eq}
use Rattle.std.specs.List.{list_all, AllByRecursion}
use Rattle.std.proofs.lemmas.Bool.{ltb-true, lt-ltb}
use Rattle.std.proofs.lemmas.Slice.Eq.{bytes_eq-Decides}
use Rattle.pb_base.proofs.Cases.{both_true, not_true}
use Rattle.pb_code.specs.Names.{Word, is_name_byte, reserved_words, is_among, is_name}
use Rattle.pb_code.specs.Limits.{IsName}

-- ---- truths

pub false_from : (b : Bool) → (b ≡ true → ⊥) → b ≡ false
false_from true h = absurd (h refl)
false_from false h = refl

-- ---- one of some words

or_cases : (b c : Bool) → (b || c) ≡ true → (b ≡ true) ⊎ (c ≡ true)
or_cases true c h = inl refl
or_cases false c h = inr h

or_right : (b c : Bool) → c ≡ true → (b || c) ≡ true
or_right true c h = refl
or_right false c h = h

pub contained : (words : List Word) (w : Word) → is_among words w ≡ true → Contains words w
contained [] w h = absurd cc
contained (v ∷ words) w h =
    elim (or_cases (bytes_eq w v) (is_among words w) h) [
      | inl e ↦ (0, omega arith, sym ((bytes_eq-Decides w v).0 e))
      | inr e ↦ let c = contained words w e in let lt = c.1 in (suc c.0, omega (arith, lt), c.2)
    ]

among_at : (words : List Word) (w : Word) (k : ℕ) → k < length words → get_or words k w ≡ w → is_among words w ≡ true
among_at [] w k lt e = absurd (omega arith)
among_at (v ∷ words) w zero lt e = rw ((bytes_eq-Decides w v).1 (sym e)) refl
among_at (v ∷ words) w (suc k) lt e = or_right (bytes_eq w v) (is_among words w) (among_at words w k (omega arith) e)

pub not_contained : (words : List Word) (w : Word) → ¬ Contains words w → is_among words w ≡ false
not_contained words w none = false_from (is_among words w) (λ h. none (contained words w h))

-- ---- the form of a name

all_index : (p : ℕ → Bool) (bs : List ℕ) → list_all p bs ≡ true → (k : ℕ) → k < length bs → p (get_or bs k 0) ≡ true
all_index p [] h k lt = absurd (omega arith)
all_index p (b ∷ bs) h zero lt = (both_true (p b) (list_all p bs) h).0
all_index p (b ∷ bs) h (suc k) lt = all_index p bs (both_true (p b) (list_all p bs) h).1 k (omega arith)

index_all : (p : ℕ → Bool) (bs : List ℕ) → ((k : ℕ) → k < length bs → p (get_or bs k 0) ≡ true) → list_all p bs ≡ true
index_all p [] h = refl
index_all p (b ∷ bs) h =
    let here : p b ≡ true = h 0 (omega arith) in
    rw (here, index_all p bs (λ k lt. h (suc k) (omega (arith, lt)))) refl

pub letter_name : (b : ℕ) → is_ascii_alphabetic b ≡ true → is_name_byte b ≡ true
letter_name b h = rw h refl

bytes_of : (b : ℕ) (bs : List ℕ) → is_ascii_alphabetic b ≡ true → list_all is_name_byte bs ≡ true
    → EachIndex (b ∷ bs) (λ k. is_name_byte (get_or (b ∷ bs) k 0) ≡ true)
bytes_of b bs h all zero lt = letter_name b h
bytes_of b bs h all (suc k) lt = all_index is_name_byte bs all k (omega arith)

is_formed : (w : Word) → is_name w ≡ true → IsName w
unfolding is_name
is_formed [] h = absurd cc
is_formed (b ∷ bs) h =
    let p = both_true (is_ascii_alphabetic b) (list_all is_name_byte bs && (ltb (length bs) 32 && not (is_among reserved_words (b ∷ bs)))) h in
    let q = both_true (list_all is_name_byte bs) (ltb (length bs) 32 && not (is_among reserved_words (b ∷ bs))) p.1 in
    let r = both_true (ltb (length bs) 32) (not (is_among reserved_words (b ∷ bs))) q.1 in
    let few = ltb-true _ _ r.0 in
    let free = not_true (is_among reserved_words (b ∷ bs)) r.1 in
    record {
      size = (omega arith, omega (arith, few));
      begins = p.0;
      bytes = bytes_of b bs p.0 q.0;
      free = λ c. let among = among_at reserved_words (b ∷ bs) c.0 c.1 c.2 in cc;
    }

is_named : (w : Word) → IsName w → is_name w ≡ true
unfolding is_name
is_named [] h = absurd (let some = h.size.0 in omega (arith, some))
is_named (b ∷ bs) h =
    let few = h.size.1 in
    let short : ltb (length bs) 32 ≡ true = lt-ltb _ _ (omega (arith, few)) in
    let all : list_all is_name_byte bs ≡ true = index_all is_name_byte bs (λ k lt. h.bytes (suc k) (omega (arith, lt))) in
    let free : is_among reserved_words (b ∷ bs) ≡ false = not_contained reserved_words (b ∷ bs) h.free in
    rw (h.begins, all, short, free) refl

-- the test of a word says whether it is a name
pub name_decides : (w : Word) → (is_name w ≡ true) ↔ IsName w
name_decides w = (is_formed w, is_named w)

pub formed_are_names : (names : List Word) → All IsName names → AllByRecursion (λ w. is_name w ≡ true) names
formed_are_names [] h = tt
formed_are_names (w ∷ names) h = (is_named w (h 0 w (omega arith)), formed_are_names names (λ k d lt. h (suc k) d (omega (arith, lt))))
