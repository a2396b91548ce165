-- Which words numbers can have in their place, and lists of such words.
use Rattle.std.proofs.Common.{◌≡◌, inl, inr, ℕ, zero, suc, ◌≤◌, Bool, true, false, cond, not, ◌&&◌, ◌||◌}
use Rattle.std.proofs.Common.{eqb, ltb, List, [], ◌∷◌, length, refl, sym, ap, subst, ◌∙◌, arith, codes, map}
use Rattle.std.specs.List.{list_all, AllByRecursion}
use Rattle.std.specs.Char.{is_ascii_alphabetic, is_ascii_digit}
use Rattle.std.specs.Str.{bytes_eq}
use Rattle.std.specs.Str.Parse.{digits_value}
use Rattle.std.specs.Fmt.{decimal}
use Rattle.std.proofs.lemmas.Bool.{eqb-true}
use Rattle.std.proofs.lemmas.Bool.Decides.{nat_tests}
use Rattle.std.proofs.lemmas.Fmt.{digits_value-decimal}
use Rattle.std.proofs.lemmas.Slice.Eq.{bytes_eq-Decides}
use Rattle.pb_base.proofs.Cases.{both_true}
use Rattle.pb_code.specs.Names.{Word, is_name}
use Rattle.pb_code.specs.Numerals.{is_numeral}
use Rattle.pb_code.proofs.NumeralLemmas.{own, is_numeral_decimal}
use Rattle.pb_code.proofs.NameTests.{false_from}
use Rattle.pb_object.specs.declared.words.Verdict.{Verdict}
use Rattle.pb_object.specs.declared.words.Verdict.TheVariants.{Malformed, Beyond, Read}
use Rattle.pb_object.specs.Words.{mapped, paired, number, numbers}
use Rattle.pb_object.specs.Reading.{says_number}
use Rattle.pb_object.specs.Renumbered.{is_below, AreAlike, AllAlike, lends}
use Rattle.pb_object.proofs.Verdicts.{mapped_read}

-- Words after a keyword that are not malformed are those that some words that are read become by other numbers, and
-- such words are not malformed. Kept is known of words that are not malformed; Needed has to be known of words that are not to be.
pub record IsKind {X : Type 0} (Kept Needed : List Word → Type 0) (form : List Word → Verdict X) : Type 0 where
  pub stands : (ws : List Word) → (form ws ≡ Malformed → ⊥) → (x : X) × (vs : List Word) × (form vs ≡ Read x) × AllAlike vs ws × Kept ws
  pub formed : (vs ws : List Word) (x : X) → form vs ≡ Read x → AllAlike vs ws → Needed ws → form ws ≡ Malformed → ⊥

abbrev pub verdict_read : {X : Type 0} → X → Verdict X
verdict_read x = Read x

abbrev pub verdict_beyond : {X : Type 0} → Verdict X
verdict_beyond = Beyond

-- ---- one of two verdicts

pub by_bool : {X : Type 0} (Kept Needed : List Word → Type 0) (b : Bool) (it others : List Word → Verdict X)
    → (b ≡ true → IsKind Kept Needed it) → IsKind Kept Needed others → IsKind Kept Needed (λ ws. cond b (it ws) (others ws))
by_bool Kept Needed true it others h k = h refl
by_bool Kept Needed false it others h k = k

pub mapped_malformed : {A B : Type 0} (f : A → B) (v : Verdict A) → mapped f v ≡ Malformed → v ≡ Malformed
mapped_malformed f Malformed e = refl
mapped_malformed f Beyond e = absurd cc
mapped_malformed f (Read x) e = absurd cc

pub mapped_not : {A B : Type 0} (f : A → B) (v : Verdict A) → (mapped f v ≡ Malformed → ⊥) → v ≡ Malformed → ⊥
mapped_not {A} f v h e = h (ap (λ (x : Verdict A). mapped f x) e)

pub mapped_kind : {A B : Type 0} (Kept Needed : List Word → Type 0) (f : A → B) (form : List Word → Verdict A)
    → IsKind Kept Needed form → IsKind Kept Needed (λ ws. mapped f (form ws))
mapped_kind {A} {B} Kept Needed f form kind = record {
  stands = λ ws well.
      let t = kind.stands ws (mapped_not f (form ws) well) in
      (f t.0, t.1, ap (λ (v : Verdict A). mapped f v) t.2, t.3, t.4);
  formed = λ vs ws x e alike needed bad.
      let m = mapped_read f (form vs) x e in
      kind.formed vs ws m.0 m.1 alike needed (mapped_malformed f (form ws) bad);
}

pub paired_malformed : {A B : Type 0} (v : Verdict A) (w : Verdict B) → paired v w ≡ Malformed → (v ≡ Malformed → ⊥) → (w ≡ Malformed → ⊥) → ⊥
paired_malformed Malformed w e h k = h refl
paired_malformed Beyond Malformed e h k = k refl
paired_malformed Beyond Beyond e h k = absurd cc
paired_malformed Beyond (Read b) e h k = absurd cc
paired_malformed (Read a) Malformed e h k = k refl
paired_malformed (Read a) Beyond e h k = absurd cc
paired_malformed (Read a) (Read b) e h k = absurd cc

pub first_not : {A B : Type 0} (v : Verdict A) (w : Verdict B) → (paired v w ≡ Malformed → ⊥) → v ≡ Malformed → ⊥
first_not {A} {B} v w h e = h (ap (λ (x : Verdict A). paired x w) e)

pub second_not : {A B : Type 0} (v : Verdict A) (w : Verdict B) → (paired v w ≡ Malformed → ⊥) → w ≡ Malformed → ⊥
second_not Malformed w h e = h refl
second_not {A} {B} Beyond w h e = h (ap (λ (x : Verdict B). paired (verdict_beyond {X = A}) x) e)
second_not {A} {B} (Read a) w h e = h (ap (λ (x : Verdict B). paired (verdict_read a) x) e)

-- ---- a number

judge_formed : (a b : Bool) (n : ℕ) → (cond a (cond b verdict_beyond (Read n)) Malformed ≡ Malformed → ⊥) → a ≡ true
judge_formed true b n h = refl
judge_formed false b n h = absurd (h refl)

judge_malformed : (a b : Bool) (n : ℕ) → cond a (cond b verdict_beyond (Read n)) Malformed ≡ Malformed → a ≡ false
judge_malformed true true n e = absurd cc
judge_malformed true false n e = absurd cc
judge_malformed false b n e = refl

-- what is not malformed as a number is a numeral
pub formed_numeral : (low high : ℕ) (w : Word) → (number low high w ≡ Malformed → ⊥) → is_numeral w ≡ true
unfolding number
formed_numeral low high w h = judge_formed (is_numeral w) (ltb (digits_value 10 w) low || ltb high (digits_value 10 w)) (digits_value 10 w) h

pub numeral_formed : (low high : ℕ) (w : Word) → is_numeral w ≡ true → number low high w ≡ Malformed → ⊥
unfolding number
numeral_formed low high w h e =
    let none = judge_malformed (is_numeral w) (ltb (digits_value 10 w) low || ltb high (digits_value 10 w)) (digits_value 10 w) e in
    absurd cc

pub read_numeral : (low high : ℕ) (w : Word) (n : ℕ) → number low high w ≡ Read n → is_numeral w ≡ true
read_numeral low high w n e = formed_numeral low high w (λ bad. absurd cc)

pub beyond_numeral : (low high : ℕ) (w : Word) → number low high w ≡ Beyond → is_numeral w ≡ true
beyond_numeral low high w e = formed_numeral low high w (λ bad. absurd cc)

-- ---- words alike

pub digit_no_minus : (b : ℕ) (ds : Word) → is_numeral (b ∷ ds) ≡ true → eqb b 45 ≡ true → ⊥
digit_no_minus b ds h e =
    let is : b ≡ 45 = eqb-true b 45 e in
    let all : is_numeral (45 ∷ ds) ≡ true = subst (λ (x : ℕ). is_numeral (x ∷ ds) ≡ true) is h in
    absurd cc

pub not_both : (w : Word) → is_numeral w ≡ true → is_below w ≡ true → ⊥
not_both [] h k = absurd cc
not_both (b ∷ ds) h k = digit_no_minus b ds h (both_true (eqb b 45) (is_numeral ds && not (bytes_eq ds (codes "0"))) k).0

pub alike_numeral : (v w : Word) → AreAlike v w → is_numeral v ≡ true → is_numeral w ≡ true
alike_numeral v w (inl e) h = ap is_numeral (sym e) ∙ h
alike_numeral v w (inr (inl p)) h = p.1
alike_numeral v w (inr (inr p)) h = absurd (not_both v h p.0)

pub alike_below : (v w : Word) → AreAlike v w → is_below v ≡ true → is_below w ≡ true
alike_below v w (inl e) h = ap is_below (sym e) ∙ h
alike_below v w (inr (inl p)) h = absurd (not_both v p.0 h)
alike_below v w (inr (inr p)) h = p.1

-- a word that is no number has only itself in its place
pub alike_same : (v w : Word) → AreAlike v w → is_numeral v ≡ false → is_below v ≡ false → v ≡ w
alike_same v w (inl e) h k = e
alike_same v w (inr (inl p)) h k = absurd (let q = p.0 in cc)
alike_same v w (inr (inr p)) h k = absurd (let q = p.0 in cc)

pub alike_numbers : (v w : Word) → is_numeral v ≡ true → is_numeral w ≡ true → AreAlike v w
alike_numbers v w h k = inr (inl (h, k))

pub all_same : (ws : List Word) → AllAlike ws ws
all_same [] = tt
all_same (w ∷ ws) = (inl refl, all_same ws)

pub one_is : is_numeral (decimal 1) ≡ true
one_is = is_numeral_decimal 1 (omega arith)

pub zero_is : is_numeral (decimal 0) ≡ true
zero_is = is_numeral_decimal 0 (omega arith)

-- the number 1 does not say that no names follow
pub one_counts_none : says_number (decimal 1) 0 ≡ false
one_counts_none = rw (one_is, digits_value-decimal own 1 (omega arith)) refl

letter_no_digit : (b : ℕ) (bs : Word) → is_ascii_alphabetic b ≡ true → is_numeral (b ∷ bs) ≡ true → ⊥
letter_no_digit b bs h e =
    let all = both_true (list_all is_ascii_digit (b ∷ bs)) (not (eqb b 48) || eqb (length bs) 0) e in
    let digit : is_ascii_digit b ≡ true = (both_true (is_ascii_digit b) (list_all is_ascii_digit bs) all.0).0 in
    grind (arith, nat_tests)

letter_no_minus : (b : ℕ) → is_ascii_alphabetic b ≡ true → eqb b 45 ≡ true → ⊥
letter_no_minus b h e =
    let is : b ≡ 45 = eqb-true b 45 e in
    let letter : is_ascii_alphabetic 45 ≡ true = subst (λ (x : ℕ). is_ascii_alphabetic x ≡ true) is h in
    absurd cc

-- a name is no number
pub name_is_none : (w : Word) → is_name w ≡ true → (is_numeral w ≡ false) × (is_below w ≡ false)
unfolding is_name
name_is_none [] h = absurd cc
name_is_none (b ∷ bs) h = (
  false_from _ (λ e. letter_no_digit b bs (both_true _ _ h).0 e),
  false_from _ (λ e. letter_no_minus b (both_true _ _ h).0 (both_true (eqb b 45) (is_numeral bs && not (bytes_eq bs (codes "0"))) e).0),
)

-- a numeral is no word that is none
pub numeral_differs : (w k : Word) → is_numeral w ≡ true → is_numeral k ≡ false → bytes_eq w k ≡ false
numeral_differs w k h none =
    false_from (bytes_eq w k) (λ e. let is : is_numeral w ≡ is_numeral k = ap is_numeral ((bytes_eq-Decides w k).0 e) in absurd cc)

-- a numeral is neither `take` nor `give`
pub numeral_lends_not : (w : Word) → is_numeral w ≡ true → lends w ≡ false
numeral_lends_not w h = rw (numeral_differs w (codes "take") h refl, numeral_differs w (codes "give") h refl) refl

-- ---- numbers

abbrev cons_pair : ℕ × List ℕ → List ℕ
cons_pair p = p.0 ∷ p.1

pub numbers_numerals : (low high : ℕ) (ws : List Word) → (numbers low high ws ≡ Malformed → ⊥) → list_all is_numeral ws ≡ true
numbers_numerals low high [] h = refl
numbers_numerals low high (w ∷ ws) h =
    let both = mapped_not cons_pair (paired (number low high w) (numbers low high ws)) h in
    let one = formed_numeral low high w (first_not (number low high w) (numbers low high ws) both) in
    let others = numbers_numerals low high ws (second_not (number low high w) (numbers low high ws) both) in
    rw (one, others) refl

pub numbers_formed : (low high : ℕ) (ws : List Word) → list_all is_numeral ws ≡ true → numbers low high ws ≡ Malformed → ⊥
numbers_formed low high [] h e = absurd cc
numbers_formed low high (w ∷ ws) h e =
    let s = both_true (is_numeral w) (list_all is_numeral ws) h in
    paired_malformed (number low high w) (numbers low high ws) (mapped_malformed cons_pair (paired (number low high w) (numbers low high ws)) e)
    (numeral_formed low high w s.0) (numbers_formed low high ws s.1)

pub alike_numerals : (vs ws : List Word) → AllAlike vs ws → list_all is_numeral vs ≡ true → list_all is_numeral ws ≡ true
alike_numerals [] [] a h = refl
alike_numerals [] (w ∷ ws) a h = absurd a
alike_numerals (v ∷ vs) [] a h = absurd a
alike_numerals (v ∷ vs) (w ∷ ws) a h =
    let s = both_true (is_numeral v) (list_all is_numeral vs) h in
    rw (alike_numeral v w a.0 s.0, alike_numerals vs ws a.1 s.1) refl

pub alike_length : (vs ws : List Word) → AllAlike vs ws → length vs ≡ length ws
alike_length [] [] a = refl
alike_length [] (w ∷ ws) a = absurd a
alike_length (v ∷ vs) [] a = absurd a
alike_length (v ∷ vs) (w ∷ ws) a = ap suc (alike_length vs ws a.1)

-- as many zeros
pub zeros : ℕ → List ℕ
zeros zero = []
zeros (suc n) = 0 ∷ zeros n

pub length_zeros : (n : ℕ) → length (zeros n) ≡ n
unfolding zeros
length_zeros zero = refl
length_zeros (suc n) = ap suc (length_zeros n)

pub small_zeros : (n high : ℕ) → AllByRecursion (λ x. x ≤ high) (zeros n)
unfolding zeros
small_zeros zero high = tt
small_zeros (suc n) high = (omega arith, small_zeros n high)

pub zeros_alike : (ws : List Word) → list_all is_numeral ws ≡ true → AllAlike (map decimal (zeros (length ws))) ws
unfolding zeros
zeros_alike [] h = tt
zeros_alike (w ∷ ws) h =
    let s = both_true (is_numeral w) (list_all is_numeral ws) h in
    (alike_numbers (decimal 0) w zero_is s.0, zeros_alike ws s.1)
