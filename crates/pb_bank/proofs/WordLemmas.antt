-- The words of a text, one after another.
use Rattle.std.proofs.Common.{◌≡◌, ℕ, suc, ◌+◌, ◌<◌, ◌≤◌, ◌++◌, ◌||◌, eqb, Bool, true, false, cond, List, [], ◌∷◌, length, take, drop, get_or}
use Rattle.std.proofs.Common.{refl, sym, ap, ◌∙◌, arith, inl, inr}
use Rattle.std.proofs.lemmas.Bool.{cases_lt, eqb-true}
use Rattle.std.proofs.Math.Seq.{drop-cons}
use Rattle.std.proofs.lemmas.List.{take_more, drop_all, length-drop}
use Rattle.pb_bank.specs.Answers.{first_of, rest_of}
use Rattle.pb_bank.specs.Words.{is_blank, ends_word, before, cut_words, trimmed, words_of}

-- what is left of a text from a place on begins with the byte there
pub next_at : (text : List ℕ) (i : ℕ) → i < length text → drop i text ≡ get_or text i 0 ∷ drop (i + 1) text
next_at text i lt =
    let n : suc i ≡ i + 1 = omega arith in
    drop-cons text i 0 lt ∙ ap (λ k. get_or text i 0 ∷ drop k text) n

cut_at : (word : List ℕ) (b : ℕ) (rest : List ℕ) (blank comma : Bool) → List (List ℕ)
cut_at word b rest blank comma =
    cond blank (before word (cut_words [] rest)) (
    cond comma (before word ((44 ∷ []) ∷ cut_words [] rest)) (cut_words (word ++ b ∷ []) rest))

-- a blank at the front says nothing
pub skip_blank : (text : List ℕ) (i : ℕ) → i < length text → is_blank (get_or text i 0) ≡ true
    → words_of (drop (i + 1) text) ≡ words_of (drop i text)
unfolding words_of cut_at
skip_blank text i lt blank =
    let b = get_or text i 0 in
    let rest = drop (i + 1) text in
    let step : cut_words [] (b ∷ rest) ≡ cut_words [] rest = ap (λ t. cut_at [] b rest t (eqb b 44)) blank in
    sym (ap (cut_words []) (next_at text i lt) ∙ step)

pub trim_blank : (text : List ℕ) (i : ℕ) → i < length text → is_blank (get_or text i 0) ≡ true
    → trimmed (drop (i + 1) text) ≡ trimmed (drop i text)
trim_blank text i lt blank =
    let b = get_or text i 0 in
    let rest = drop (i + 1) text in
    sym (ap trimmed (next_at text i lt) ∙ ap (λ t. cond t (trimmed rest) (b ∷ rest)) blank)

-- a text that begins with no blank stays as it is
pub trim_ends : (text : List ℕ) (i : ℕ) → i < length text → is_blank (get_or text i 0) ≡ false → trimmed (drop i text) ≡ drop i text
trim_ends text i lt blank =
    let b = get_or text i 0 in
    let rest = drop (i + 1) text in
    ap trimmed (next_at text i lt) ∙ (ap (λ t. cond t (trimmed rest) (b ∷ rest)) blank ∙ sym (next_at text i lt))

pub trim_nothing : (text : List ℕ) (i : ℕ) → length text ≤ i → trimmed (drop i text) ≡ drop i text
trim_nothing text i le = ap trimmed (drop_all i text le) ∙ sym (drop_all i text le)

-- a byte that ends no word is of the word
pub word_more : (text : List ℕ) (i : ℕ) → i < length text → is_blank (get_or text i 0) ≡ false → eqb (get_or text i 0) 44 ≡ false
    → cut_words (take i text) (drop i text) ≡ cut_words (take (i + 1) text) (drop (i + 1) text)
unfolding cut_at
word_more text i lt blank comma =
    let b = get_or text i 0 in
    let rest = drop (i + 1) text in
    let word = take i text in
    let first : cut_words word (b ∷ rest) ≡ cut_at word b rest false (eqb b 44) = ap (λ t. cut_at word b rest t (eqb b 44)) blank in
    let second : cut_at word b rest false (eqb b 44) ≡ cut_words (word ++ b ∷ []) rest = ap (λ t. cut_at word b rest false t) comma in
    ap (cut_words word) (next_at text i lt)
    ∙ (first ∙ (second ∙ ap (λ (w : List ℕ). cut_words w rest) (sym (take_more text i 0 lt))))

-- a word that a blank or a comma ends
ended : (word : List ℕ) (b : ℕ) (rest : List ℕ) (blank comma : Bool) → blank || comma ≡ true
    → cut_at word b rest blank comma ≡ before word (cut_at [] b rest blank comma)
unfolding cut_at
ended word b rest true comma e = refl
ended word b rest false true e = refl
ended word b rest false false e = absurd (cc)

pub word_ends : (text : List ℕ) (n : ℕ) → n ≤ length text → words_of text ≡ cut_words (take n text) (drop n text)
    → (n < length text → ends_word (get_or text n 0) ≡ true) → words_of text ≡ before (take n text) (words_of (drop n text))
unfolding words_of cut_at
word_ends text n le e ends = elim (cases_lt n (length text)) [
  | inl lt ↦
      let b = get_or text n 0 in
      let rest = drop (n + 1) text in
      let parts = next_at text n lt in
      e ∙ (ap (cut_words (take n text)) parts
      ∙ (ended (take n text) b rest (is_blank b) (eqb b 44) (ends lt)
      ∙ ap (λ (r : List ℕ). before (take n text) (cut_words [] r)) (sym parts)))
  | inr ge ↦
      let none : drop n text ≡ [] = drop_all n text (omega (arith, ge)) in
      e ∙ (ap (cut_words (take n text)) none ∙ ap (λ (r : List ℕ). before (take n text) (cut_words [] r)) (sym none))
]

-- a comma at the front is a word
pub comma_first : (text : List ℕ) → 0 < length text → is_blank (get_or text 0 0) ≡ false → ends_word (get_or text 0 0) ≡ true
    → words_of text ≡ before (take 1 text) (words_of (drop 1 text))
unfolding words_of cut_at
comma_first [] lt blank ends = absurd (omega arith)
comma_first (b ∷ rest) lt blank ends =
    let comma : eqb b 44 ≡ true = ap (λ t. t || eqb b 44) (sym blank) ∙ ends in
    let is : b ≡ 44 = eqb-true b 44 comma in
    ap (λ t. cut_at [] b rest t (eqb b 44)) blank
    ∙ (ap (λ t. cut_at [] b rest false t) comma ∙ ap (λ c. (c ∷ []) ∷ cut_words [] rest) (sym is))

pub no_words : (text : List ℕ) → length text ≡ 0 → words_of text ≡ []
unfolding words_of
no_words [] e = refl
no_words (b ∷ bs) e = absurd (omega arith)

pub starts : (text : List ℕ) → words_of text ≡ cut_words (take 0 text) (drop 0 text)
unfolding words_of
starts text = refl

pub before_some : (word : List ℕ) (words : List (List ℕ)) → 0 < length word → before word words ≡ word ∷ words
before_some [] words lt = absurd (omega arith)
before_some (b ∷ bs) words lt = refl

pub before_none : (word : List ℕ) (words : List (List ℕ)) → length word ≡ 0 → before word words ≡ words
before_none [] words e = refl
before_none (b ∷ bs) words e = absurd (omega arith)

pub empty_before : (text : List ℕ) → length text ≡ 0 → words_of text ≡ before text (words_of text)
unfolding words_of
empty_before [] e = refl
empty_before (b ∷ bs) e = absurd (omega arith)

-- the parts under other names
pub parts_as : (text word word' rest rest' : List ℕ) → words_of text ≡ before word' (words_of rest')
    → word ≡ word' → rest ≡ rest' → words_of text ≡ before word (words_of rest)
parts_as text word word' rest rest' e w r =
    e ∙ (ap (λ (x : List ℕ). before x (words_of rest')) (sym w) ∙ ap (λ (x : List ℕ). before word (words_of x)) (sym r))

-- what is after the blanks does not begin with one
pub first_kept : (text : List ℕ) (n : ℕ) (rest : List ℕ) → rest ≡ drop n text
    → (n < length text → is_blank (get_or text n 0) ≡ false) → 0 < length rest → is_blank (get_or rest 0 0) ≡ false
first_kept text n rest is ends some =
    let size : length rest ≡ length (drop n text) = ap (λ (x : List ℕ). length x) is in
    let cut = length-drop n text in
    let lt : n < length text = omega (arith, size, cut, some) in
    let here : rest ≡ get_or text n 0 ∷ drop (n + 1) text = is ∙ next_at text n lt in
    ap (λ (x : List ℕ). is_blank (get_or x 0 0)) here ∙ ends lt

-- the word with a number is the one with the number before, after the first word
pub nth_next : (words : List (List ℕ)) (n : ℕ) (word : List ℕ) (rest : List (List ℕ)) → words ≡ before word rest
    → (length word ≡ 0 → words ≡ []) → get_or words (suc n) [] ≡ get_or rest n []
nth_next words n [] rest is none =
    let empty = none refl in
    let nothing : rest ≡ [] = sym is ∙ empty in
    ap (λ (ws : List (List ℕ)). get_or ws (suc n) []) empty ∙ ap (λ (ws : List (List ℕ)). get_or ws n []) (sym nothing)
nth_next words n (b ∷ bs) rest is none = ap (λ (ws : List (List ℕ)). get_or ws (suc n) []) is

-- the first of the words
pub nth_first : (words : List (List ℕ)) (word : List ℕ) (rest : List (List ℕ)) → words ≡ before word rest
    → (length word ≡ 0 → words ≡ []) → word ≡ get_or words 0 []
nth_first words [] rest is none = ap (λ (ws : List (List ℕ)). get_or ws 0 []) (sym (none refl))
nth_first words (b ∷ bs) rest is none = ap (λ (ws : List (List ℕ)). get_or ws 0 []) (sym is)

-- the first of the words, and those after it
pub first_is : (words : List (List ℕ)) (word : List ℕ) (rest : List (List ℕ)) → words ≡ before word rest
    → (length word ≡ 0 → words ≡ []) → (first_of words ≡ word) × (rest_of words ≡ rest)
first_is words [] rest is none =
    let empty = none refl in
    (ap first_of empty, ap rest_of empty ∙ (sym empty ∙ is))
first_is words (b ∷ bs) rest is none = (ap first_of is, ap rest_of is)
