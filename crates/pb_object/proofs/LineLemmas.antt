-- A line that is cut off is the line that was written, and the other way round.
use Rattle.std.proofs.Common.{◌≡◌, ℕ, suc, ◌<◌, Bool, true, false, not, ◌&&◌, eqb, ltb, List, [], ◌∷◌, ◌++◌, length}
use Rattle.std.proofs.Common.{get_or, take, drop, Option, Some, None, Result, Ok, Err, refl, sym, ap, subst, ◌∙◌}
use Rattle.std.proofs.Common.{append_assoc, arith, drop-cons}
use Rattle.std.specs.List.{slice_split, join_with_byte, position, position_or_len, prefix_len, list_all}
use Rattle.std.specs.List.{AllByRecursion, All}
use Rattle.std.proofs.lemmas.Bool.{eqb-true, lt-ltb}
use Rattle.std.proofs.lemmas.List.{take_at, drop_at, take-append-drop, length-append}
use Rattle.std.proofs.lemmas.List.Quantifiers.{position-Some}
use Rattle.std.proofs.lemmas.List.Splits.{slice_split_none, slice_split_at, join_with_byte-slice_split}
use Rattle.std.proofs.lemmas.List.Elements.{All-from_recursion}
use Rattle.pb_base.proofs.Cases.{both_true, not_true}
use Rattle.pb_object.specs.declared.fault.Fault.{Fault}
use Rattle.pb_code.specs.Names.{Word}
use Rattle.pb_object.specs.Lines.{line_text, ◌>>=◌, words_before, first_words}

-- the value of a step that did not fail
pub bind_ok : {A B : Type 0} (r : Result A Fault) (f : A → Result B Fault) (y : B) → (r >>= f) ≡ Ok y → (x : A) × (r ≡ Ok x) × (f x ≡ Ok y)
bind_ok (Ok x) f y e = (x, refl, e)
bind_ok (Err d) f y e = absurd cc

abbrev done : {A : Type 0} → A → Result A Fault
done x = Ok x

pub ok_is : {A : Type 0} (x y : A) → done x ≡ done y → x ≡ y
ok_is x y e = cc

-- neither a space nor a line end
abbrev pub is_inner : ℕ → Bool
is_inner b = not (eqb b 32) && not (eqb b 10)

abbrev pub AreWords : List Word → Type 0
AreWords words = AllByRecursion (λ w. list_all is_inner w ≡ true) words

pub all_mono : (p q : ℕ → Bool) → ((b : ℕ) → p b ≡ true → q b ≡ true) → (xs : List ℕ) → list_all p xs ≡ true → list_all q xs ≡ true
all_mono p q each [] h = refl
all_mono p q each (x ∷ xs) h =
    let s = both_true (p x) (list_all p xs) h in
    rw (each x s.0, all_mono p q each xs s.1) refl

cut_takes : (text : List ℕ) (o : Option ℕ) (x : List Word × List ℕ) → position (λ b. eqb b 10) text ≡ o → words_before
    text o ≡ Ok x → text ≡ line_text x.0 ++ x.1
cut_takes text None x at e = absurd cc
cut_takes text (Some i) x at e =
    let s = position-Some (λ b. eqb b 10) text i 0 at in
    let lf : get_or text i 0 ≡ 10 = eqb-true _ _ s.1 in
    let rest : drop i text ≡ 10 ∷ drop 1 (drop i text) =
    (let below : i < length text = s.0 in let one = drop-cons text i 0 below in let two : drop 1 (drop i text) ≡ drop
    (suc i) text = ap (drop 1) one in one ∙ ap (λ (b : ℕ). b ∷ drop (suc i) text) lf ∙ ap (λ (r : List ℕ). 10 ∷ r)
    (sym two)) in
    let words : join_with_byte 32 (slice_split (λ b. eqb b 32) (take i text)) ≡ take i text = join_with_byte-slice_split 32 (take i text) in
    let whole : text ≡ line_text (slice_split (λ b. eqb b 32) (take i text)) ++ drop 1 (drop i text) =
    sym (take-append-drop i text) ∙ ap (λ (r : List ℕ). take i text ++ r) rest ∙ sym (append_assoc (take i text) (10 ∷
    []) (drop 1 (drop i text))) ∙ rw words refl in
    let same = ok_is (slice_split (λ b. eqb b 32) (take i text), drop 1 (drop i text)) x e in
    subst (λ (y : List Word × List ℕ). text ≡ line_text y.0 ++ y.1) same whole

pub first_line_takes : (text : List ℕ) (x : List Word × List ℕ) → first_words text ≡ Ok x → text ≡ line_text x.0 ++ x.1
unfolding first_words
first_line_takes text x e = cut_takes text (position (λ b. eqb b 10) text) x refl e

-- ---- again

all_rec : (p : ℕ → Bool) (xs : List ℕ) → ((b : ℕ) → is_inner b ≡ true → p b ≡ false) → list_all is_inner xs ≡ true → AllByRecursion (λ b. p b ≡ false) xs
all_rec p [] each h = tt
all_rec p (x ∷ xs) each h = let s = both_true (is_inner x) (list_all is_inner xs) h in (each x s.0, all_rec p xs each s.1)

all_by_index : (p : ℕ → Bool) (xs : List ℕ) → ((b : ℕ) → is_inner b ≡ true → p b ≡ false) → list_all is_inner xs ≡ true → All (λ b. p b ≡ false) xs
all_by_index p xs each h = All-from_recursion (λ b. p b ≡ false) xs (all_rec p xs each h)

inner_space : (b : ℕ) → is_inner b ≡ true → eqb b 32 ≡ false
inner_space b h = not_true (eqb b 32) (both_true _ _ h).0

pub split_again : (w : Word) (ws : List Word) → AreWords (w ∷ ws) → slice_split (λ b. eqb b 32) (join_with_byte 32 (w ∷ ws)) ≡ w ∷ ws
split_again w [] h = slice_split_none (λ b. eqb b 32) w (all_by_index (λ b. eqb b 32) w inner_space h.0)
split_again w (v ∷ ws) h =
    slice_split_at (λ b. eqb b 32) w 32 (join_with_byte 32 (v ∷ ws)) (all_by_index (λ b. eqb b 32) w inner_space h.0) refl
    ∙ ap (λ (x : List Word). w ∷ x) (split_again v ws h.1)

pub all_then : (p : ℕ → Bool) (xs ys : List ℕ) → list_all p xs ≡ true → list_all p ys ≡ true → list_all p (xs ++ ys) ≡ true
all_then p [] ys h k = k
all_then p (x ∷ xs) ys h k = let s = both_true (p x) (list_all p xs) h in rw (s.0, all_then p xs ys s.1 k) refl

pub no_end : (w : Word) (ws : List Word) → AreWords (w ∷ ws) → list_all (λ b. not (eqb b 10)) (join_with_byte 32 (w ∷ ws)) ≡ true
no_end w [] h = all_mono is_inner (λ b. not (eqb b 10)) (λ b e. (both_true _ _ e).1) w h.0
no_end w (v ∷ ws) h = all_then (λ b. not (eqb b 10)) w (32 ∷ join_with_byte 32 (v ∷ ws)) (all_mono is_inner (λ b. not
    (eqb b 10)) (λ b e. (both_true _ _ e).1) w h.0) (no_end v ws h.1)

pub prefix_whole : (text rest : List ℕ) → list_all (λ b. not (eqb b 10)) text ≡ true → prefix_len (λ b. not (eqb b 10)) (text ++ 10 ∷ rest) ≡ length text
prefix_whole [] rest h = refl
prefix_whole (b ∷ text) rest h =
    let s = both_true (not (eqb b 10)) (list_all (λ b. not (eqb b 10)) text) h in
    let i = prefix_whole text rest s.1 in
    rw (s.0, i) (omega arith)

pub first_line_again : (w : Word) (ws : List Word) (rest : List ℕ) → AreWords (w ∷ ws) → first_words (line_text (w ∷ ws) ++ rest) ≡ Ok (w ∷ ws, rest)
unfolding first_words
first_line_again w ws rest h =
    let text = join_with_byte 32 (w ∷ ws) in
    let whole : line_text (w ∷ ws) ++ rest ≡ text ++ 10 ∷ rest = append_assoc text (10 ∷ []) rest in
    let at : position_or_len (λ b. eqb b 10) (text ++ 10 ∷ rest) ≡ length text = prefix_whole text rest (no_end w ws h) in
    let below : ltb (length text) (length (text ++ 10 ∷ rest)) ≡ true = lt-ltb _ _ (omega (arith, length-append text (10 ∷ rest))) in
    let found : position (λ b. eqb b 10) (text ++ 10 ∷ rest) ≡ Some (length text) = rw (at, below) refl in
    ap first_words whole ∙ ap (words_before (text ++ 10 ∷ rest)) found
    ∙ rw (take_at text (10 ∷ rest) (length text) refl, drop_at text (10 ∷ rest) (length text) refl, split_again w ws h) refl
