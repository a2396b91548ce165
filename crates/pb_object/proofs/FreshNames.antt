-- After fewer than 64 names there is a new one.
use Rattle.std.proofs.Common.{◌≡◌, ℕ, zero, suc, ◌<◌, ◌≤◌, Bool, true, false, cond, ◌||◌, List, [], ◌∷◌, length, refl}
use Rattle.std.proofs.Common.{sym, ap, subst, ◌∙◌, arith}
use Rattle.std.specs.Str.{bytes_eq}
use Rattle.std.specs.Fmt.{decimal}
use Rattle.std.proofs.lemmas.Slice.Eq.{bytes_eq-Decides}
use Rattle.pb_code.specs.Names.{Word, is_among}
use Rattle.pb_code.proofs.NameTests.{false_from}
use Rattle.pb_object.specs.Words.{is_new_name}
use Rattle.pb_object.proofs.BundleForms.{decimal_same}
use Rattle.pb_object.proofs.FirstToSecond.{plain_is_name}
use Rattle.pb_object.proofs.Numbers.{none_of}

-- the words that are not this one
abbrev without : Word → List Word → List Word
without w [] = []
without w (x ∷ xs) = cond (bytes_eq w x) (without w xs) (x ∷ without w xs)

kept_or_not : (w x : Word) (xs : List Word) (b : Bool) → bytes_eq w x ≡ b → length (without w xs) ≤ length xs
    → length (without w (x ∷ xs)) ≤ length (x ∷ xs)
kept_or_not w x xs true e h = rw e (omega (arith, h))
kept_or_not w x xs false e h = rw e (omega (arith, h))

no_longer : (w : Word) (xs : List Word) → length (without w xs) ≤ length xs
no_longer w [] = omega arith
no_longer w (x ∷ xs) = kept_or_not w x xs (bytes_eq w x) refl (no_longer w xs)

shorter_at : (w x : Word) (xs : List Word) (b : Bool) → bytes_eq w x ≡ b → (bytes_eq w x || is_among xs w) ≡ true
    → (is_among xs w ≡ true → length (without w xs) < length xs) → length (without w (x ∷ xs)) < length (x ∷ xs)
shorter_at w x xs true e h more = rw e (let le = no_longer w xs in omega (arith, le))
shorter_at w x xs false e h more =
    let there : is_among xs w ≡ true = sym (ap (λ (b : Bool). b || is_among xs w) e) ∙ h in
    rw e (let lt = more there in omega (arith, lt))

shorter : (w : Word) (xs : List Word) → is_among xs w ≡ true → length (without w xs) < length xs
shorter w [] h = absurd cc
shorter w (x ∷ xs) h = shorter_at w x xs (bytes_eq w x) refl h (shorter w xs)

still_free_at : (w v x : Word) (xs : List Word) (b : Bool) → bytes_eq w x ≡ b → bytes_eq v w ≡ false
    → is_among (without w (x ∷ xs)) v ≡ false → (is_among (without w xs) v ≡ false → is_among xs v ≡ false)
    → is_among (x ∷ xs) v ≡ false
still_free_at w v x xs true e other h more =
    let same : w ≡ x = (bytes_eq-Decides w x).0 e in
    let here : bytes_eq v x ≡ false = subst (λ (y : Word). bytes_eq v y ≡ false) same other in
    let there : is_among (without w xs) v ≡ false =
    subst (λ (b : Bool). is_among (cond b (without w xs) (x ∷ without w xs)) v ≡ false) e h in
    rw (here, more there) refl
still_free_at w v x xs false e other h more =
    let both : is_among (x ∷ without w xs) v ≡ false =
    subst (λ (b : Bool). is_among (cond b (without w xs) (x ∷ without w xs)) v ≡ false) e h in
    let parts = none_of (bytes_eq v x) (is_among (without w xs) v) both in
    rw (parts.0, more parts.1) refl

-- what is not among the others, and is another word, is not among them all
still_free : (w v : Word) (xs : List Word) → bytes_eq v w ≡ false → is_among (without w xs) v ≡ false → is_among xs v ≡ false
still_free w v [] other h = refl
still_free w v (x ∷ xs) other h = still_free_at w v x xs (bytes_eq w x) refl other h (still_free w v xs other)

plain_apart : (k n : ℕ) → k < n → n < 64 → bytes_eq (118 ∷ decimal k) (118 ∷ decimal n) ≡ false
plain_apart k n lt small =
    false_from _ (λ h.
    let same : 118 ∷ decimal k ≡ 118 ∷ decimal n = (bytes_eq-Decides (118 ∷ decimal k) (118 ∷ decimal n)).0 h in
    let digits : decimal k ≡ decimal n = cc in
    let e : k ≡ n = decimal_same k n (omega arith) (omega arith) digits in omega (arith, e))

free_at : (n : ℕ) (names : List Word) → length names < suc n → suc n ≤ 64 → (b : Bool) → is_among names (118 ∷ decimal n) ≡ b
    → ((others : List Word) → length others < n → (k : ℕ) × (k < n) × (is_among others (118 ∷ decimal k) ≡ false))
    → (k : ℕ) × (k < suc n) × (is_among names (118 ∷ decimal k) ≡ false)
free_at n names few small false e more = (n, omega arith, e)
free_at n names few small true e more =
    let w : Word = 118 ∷ decimal n in
    let less = shorter w names e in
    let m = more (without w names) (omega (arith, less, few)) in
    let below = m.1 in
    (m.0, omega (arith, below), still_free w (118 ∷ decimal m.0) names (plain_apart m.0 n below (omega arith)) m.2)

-- one of the first n plain names is not among fewer than n names
some_free : (n : ℕ) (names : List Word) → length names < n → n ≤ 64 → (k : ℕ) × (k < n) × (is_among names (118 ∷ decimal k) ≡ false)
some_free zero names few small = absurd (omega arith)
some_free (suc n) names few small =
    free_at n names few small (is_among names (118 ∷ decimal n)) refl (λ others less. some_free n others less (omega arith))

pub fresh_name : (names : List Word) → length names < 64 → (w : Word) × (is_new_name names w ≡ true)
fresh_name names few =
    let f = some_free 64 names few (omega arith) in
    (118 ∷ decimal f.0, rw (plain_is_name f.0 f.1, f.2) refl)
