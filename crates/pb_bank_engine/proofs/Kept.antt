-- What is kept of a line.
use Rattle.std.proofs.Common.{◌≡◌, inl, inr, ℕ, ◌+◌, ◌<◌, ◌≤◌, ◌++◌, ◌||◌, eqb, ltb, List, [], ◌∷◌, length, take, set, refl, true, false, cond}
use Rattle.std.proofs.Common.{sym, ap, ◌∙◌, subst, length-append, arith, Bool}
use Rattle.std.proofs.lemmas.Bool.{cases_lt, lt-ltb, ne_eqb}
use Rattle.std.proofs.lemmas.List.{take_all, take-append-le, take_more_set, length-take-le}
use Rattle.pb_bank.specs.Answers.{AnswersLine, AnswersText, AnswersWords, first_of, rest_of}
use Rattle.pb_bank.specs.Desks.{DeskValue, NoneIsAllowed}
use Rattle.pb_bank.specs.Sayings.{Saying, sayings_of}
use Rattle.pb_bank.specs.declared.said.Said.{Said}
use Rattle.pb_bank.specs.declared.said.Said.TheVariants.{Ready}
use Rattle.pb_bank.specs.Words.{before, cut_words, is_blank, is_skipped, kind_of, kind_within, trimmed, words_of}
use Rattle.pb_bank.specs.declared.kind.Kind.TheVariants.{Skip, Other}
use Rattle.pb_bank_engine.specs.Sessions.{kept, kept_with}

-- ---- bytes, one after another

cut : List ℕ → List ℕ
cut line = take 4097 line

-- a line with one byte more, as much of it as is kept
cut_more : (bytes old : List ℕ) (n b : ℕ) → take n bytes ≡ old → length bytes ≡ 4097 → n < 4097
    → take (n + 1) (set bytes n b) ≡ cut (old ++ b ∷ [])
unfolding cut
cut_more bytes old n b is long lt =
    let size : length old ≡ n = ap (λ (l : List ℕ). length l) (sym is) ∙ length-take-le n bytes (omega (arith, long, lt)) in
    let more = length-append old (b ∷ []) in
    take_more_set bytes n b (omega (arith, long, lt))
    ∙ (ap (λ (xs : List ℕ). xs ++ b ∷ []) is ∙ sym (take_all 4097 (old ++ b ∷ []) (omega (arith, size, more, lt))))

-- what is kept with one byte more, if it is no blank before all others
with_more : (old : List ℕ) (b : ℕ) → (length old ≡ 0 → is_blank b ≡ false) → cut (old ++ b ∷ []) ≡ kept_with old b
unfolding cut
with_more [] b some =
    take_all 4097 (b ∷ []) (omega arith) ∙ sym (ap (λ t. cond t [] (b ∷ [])) (some refl))
with_more (x ∷ xs) b some = refl

pub kept_more : (bytes old : List ℕ) (n b : ℕ) → take n bytes ≡ old → length bytes ≡ 4097 → n < 4097 → (n ≡ 0 → is_blank b ≡ false)
    → take (n + 1) (set bytes n b) ≡ kept_with old b
kept_more bytes old n b is long lt some =
    let size : length old ≡ n = ap (λ (l : List ℕ). length l) (sym is) ∙ length-take-le n bytes (omega (arith, long, lt)) in
    cut_more bytes old n b is long lt ∙ with_more old b (λ empty. some (sym size ∙ empty))

pub kept_full : (bytes old : List ℕ) (n b : ℕ) → take n bytes ≡ old → length bytes ≡ 4097 → 4097 ≤ n → old ≡ kept_with old b
unfolding cut
kept_full bytes old n b is long le =
    let whole : old ≡ bytes = sym is ∙ take_all n bytes (omega (arith, long, le)) in
    let size : length old ≡ 4097 = ap (λ (l : List ℕ). length l) whole ∙ long in
    sym (take-append-le 4097 old (b ∷ []) (omega (arith, size)) ∙ take_all 4097 old (omega (arith, size)))
    ∙ with_more old b (λ empty. absurd (omega (arith, size, empty)))

-- ---- lines without their first blanks

-- such a line with one byte more
more : List ℕ → ℕ → List ℕ
more [] b = cond (is_blank b) [] (b ∷ [])
more (x ∷ xs) b = (x ∷ xs) ++ b ∷ []

trimmed_more : (r : List ℕ) (b : ℕ) → trimmed (r ++ b ∷ []) ≡ more (trimmed r) b
unfolding more
trimmed_more [] b = refl
trimmed_more (x ∷ xs) b =
    elim (is_blank x) as (λ t. cond t (trimmed (xs ++ b ∷ [])) (x ∷ (xs ++ b ∷ [])) ≡ more (cond t (trimmed xs) (x ∷ xs)) b) [
      | true ↦ trimmed_more xs b
      | false ↦ refl
    ]

cut_again : (r : List ℕ) (b : ℕ) → cut (cut r ++ b ∷ []) ≡ cut (r ++ b ∷ [])
unfolding cut
cut_again r b = elim (cases_lt (length r) 4097) [
  | inl lt ↦ ap (λ (xs : List ℕ). cut (xs ++ b ∷ [])) (take_all 4097 r (omega (arith, lt)))
  | inr le ↦
      let size : length (cut r) ≡ 4097 = length-take-le 4097 r le in
      take-append-le 4097 (cut r) (b ∷ []) (omega (arith, size))
      ∙ (take_all 4097 (cut r) (omega (arith, size)) ∙ sym (take-append-le 4097 r (b ∷ []) le))
]

cut_with : (t : List ℕ) (b : ℕ) → kept_with (cut t) b ≡ cut (more t b)
unfolding cut more
cut_with [] b = elim (is_blank b) as (λ t. cond t [] (b ∷ []) ≡ cut (cond t [] (b ∷ []))) [ true ↦ refl | false ↦ refl ]
cut_with (x ∷ xs) b = cut_again (x ∷ xs) b

pub kept_again : (r : List ℕ) (b : ℕ) → kept_with (kept r) b ≡ kept (r ++ b ∷ [])
unfolding cut
kept_again r b = cut_with (trimmed r) b ∙ ap cut (sym (trimmed_more r b))

-- nothing is kept only of a line of blanks
cut_nothing : (r : List ℕ) → length (cut r) ≡ 0 → r ≡ []
unfolding cut
cut_nothing [] e = refl
cut_nothing (b ∷ bs) e = absurd (omega arith)

-- nothing is said of such a line
pub blank_answer : (d : DeskValue) (line : List ℕ) → length (kept line) ≡ 0 → NoneIsAllowed d.bank.state d.wishes → AnswersLine d line [] d
unfolding AnswersLine cut words_of kind_of
blank_answer d line e none =
    let empty : trimmed line ≡ [] = cut_nothing (trimmed line) e in
    let says : AnswersText d [] [] d = (refl, refl) in
    (subst (λ (t : List ℕ). AnswersText d t [] d) (sym empty) says, none)

-- ---- answers

-- what is left of a line begins with no blank
trim_cut : (line : List ℕ) → trimmed (cut (trimmed line)) ≡ cut (trimmed line)
unfolding cut
trim_cut [] = refl
trim_cut (x ∷ xs) =
    let goal : Bool → Type 0 = λ t. is_blank x ≡ t → trimmed (cut (cond t (trimmed xs) (x ∷ xs))) ≡ cut (cond t (trimmed xs) (x ∷ xs)) in
    let both : (t : Bool) → goal t = λ t.
    elim t as (λ t. is_blank x ≡ t → trimmed (cut (cond t (trimmed xs) (x ∷ xs))) ≡ cut (cond t (trimmed xs) (x ∷ xs))) [
      | true ↦ λ blank. trim_cut xs
      | false ↦ λ blank. ap (λ t. cond t (trimmed (take 4096 xs)) (x ∷ take 4096 xs)) blank
    ] in
    both (is_blank x) refl

-- whether a word is skipped is seen at its first byte
skipped_at : (x : ℕ) (w : List ℕ) → is_skipped (x ∷ w) ≡ eqb x 35
skipped_at x w = ap (λ t. t || eqb x 35) (ne_eqb (length (x ∷ w)) 0 (λ e. absurd (omega (arith, e))))

skipped_head : (x : ℕ) (w xs : List ℕ) → is_skipped (first_of (cut_words (x ∷ w) xs)) ≡ eqb x 35
skipped_head x w [] = skipped_at x w
skipped_head x w (b ∷ bs) =
    elim (is_blank b) as (λ s. is_skipped (first_of (cond s (before (x ∷ w) (cut_words [] bs)) (
    cond (eqb b 44) (before (x ∷ w) ((44 ∷ []) ∷ cut_words [] bs)) (cut_words ((x ∷ w) ++ b ∷ []) bs)))) ≡ eqb x 35) [
      | true ↦ skipped_at x w
      | false ↦ elim (eqb b 44) as (λ s. is_skipped (first_of (
          cond s (before (x ∷ w) ((44 ∷ []) ∷ cut_words [] bs)) (cut_words ((x ∷ w) ++ b ∷ []) bs))) ≡ eqb x 35) [
            | true ↦ skipped_at x w
            | false ↦ skipped_head x (w ++ b ∷ []) bs
          ]
    ]

-- so is whether a line is skipped
is_comma_first : ℕ → List ℕ → Bool → List (List ℕ)
is_comma_first x xs s = cond s ((44 ∷ []) ∷ cut_words [] xs) (cut_words (x ∷ []) xs)

skipped_comma : (x : ℕ) (xs : List ℕ) (s : Bool) → eqb x 44 ≡ s → is_skipped (first_of (is_comma_first x xs s)) ≡ cond s false (eqb x 35)
unfolding is_comma_first
skipped_comma x xs true e = skipped_at 44 []
skipped_comma x xs false e = skipped_head x [] xs

skipped_line : (x : ℕ) (xs : List ℕ) → is_blank x ≡ false → is_skipped (first_of (words_of (x ∷ xs))) ≡ cond (eqb x 44) false (eqb x 35)
unfolding words_of is_comma_first
skipped_line x xs blank =
    ap (λ t. is_skipped (first_of (cond t (before [] (cut_words [] xs)) (is_comma_first x xs (eqb x 44))))) blank
    ∙ skipped_comma x xs (eqb x 44) refl

-- a part of a line, which begins as the line does
same_skip : (t : List ℕ) → trimmed t ≡ t → is_skipped (first_of (words_of (cut t))) ≡ is_skipped (first_of (words_of t))
unfolding cut
same_skip [] e = refl
same_skip (x ∷ xs) e = (
    let shorter : (r : List ℕ) → length (trimmed r) ≤ length r = trimmed_shorter in
    let split : (s : Bool) → is_blank x ≡ s → is_blank x ≡ false = λ s.
    elim s as (λ s. is_blank x ≡ s → is_blank x ≡ false) [
      | true ↦ λ blank. (
          let now : trimmed xs ≡ x ∷ xs = sym (ap (λ s. cond s (trimmed xs) (x ∷ xs)) blank) ∙ e in
          let size : length (trimmed xs) ≡ length (x ∷ xs) = ap (λ (l : List ℕ). length l) now in
          let less = shorter xs in
          absurd (omega (arith, size, less)))
      | false ↦ λ blank. blank
    ] in
    let blank = split (is_blank x) refl in
    skipped_line x (take 4096 xs) blank ∙ sym (skipped_line x xs blank))
  where
    trimmed_shorter : (r : List ℕ) → length (trimmed r) ≤ length r
    trimmed_shorter [] = omega arith
    trimmed_shorter (b ∷ bs) = elim (is_blank b) as (λ s. length (cond s (trimmed bs) (b ∷ bs)) ≤ length (b ∷ bs)) [
      | true ↦ (let h = trimmed_shorter bs in omega (arith, h))
      | false ↦ omega arith
    ]

-- trimming twice is trimming once
trim_again : (line : List ℕ) → trimmed (trimmed line) ≡ trimmed line
trim_again [] = refl
trim_again (x ∷ xs) =
    let both : (t : Bool) → is_blank x ≡ t → trimmed (cond t (trimmed xs) (x ∷ xs)) ≡ cond t (trimmed xs) (x ∷ xs) = λ t.
    elim t as (λ t. is_blank x ≡ t → trimmed (cond t (trimmed xs) (x ∷ xs)) ≡ cond t (trimmed xs) (x ∷ xs)) [
      | true ↦ λ blank. trim_again xs
      | false ↦ λ blank. ap (λ t. cond t (trimmed xs) (x ∷ xs)) blank
    ] in
    both (is_blank x) refl

-- of a line that is too long it does not matter what is after the first word
long_words : (s : Bool) (d : DeskValue) (ws ws' : List (List ℕ)) (said : List Saying) (next : DeskValue)
    → AnswersWords (cond s Skip Other) d ws said next → AnswersWords (cond s Skip Other) d ws' said next
long_words true d ws ws' said next says = says
long_words false d ws ws' said next (all, is, told) = (
  all,
  is,
  told
      ∙ (ap (λ (l : List Said). sayings_of next.names ws (l ++ Ready ∷ [])) is.0
      ∙ sym (ap (λ (l : List Said). sayings_of next.names ws' (l ++ Ready ∷ [])) is.0)),
)

-- what is kept has the same answer: a line of which not all is kept is too long
pub kept_answers : (d : DeskValue) (line : List ℕ) (said : List Saying) (next : DeskValue) → AnswersLine d (kept line) said next → AnswersLine d line said next
unfolding AnswersLine cut
kept_answers d line said next (h, none) = (
  elim (cases_lt (length (trimmed line)) 4097) [
    | inl lt ↦ subst (λ (l : List ℕ). AnswersText d l said next) (trim_cut line ∙ take_all 4097 (trimmed line) (omega (arith, lt))) h
    | inr le ↦
        let t = trimmed line in
        let here : AnswersText d (cut t) said next = subst (λ (l : List ℕ). AnswersText d l said next) (trim_cut line) h in
        let size : length (cut t) ≡ 4097 = length-take-le 4097 t le in
        let short : ltb 4096 (length (cut t)) ≡ true = lt-ltb 4096 (length (cut t)) (omega (arith, size)) in
        let long : ltb 4096 (length t) ≡ true = lt-ltb 4096 (length t) (omega (arith, le)) in
        let first = first_of (words_of (cut t)) in
        let behind = rest_of (words_of (cut t)) in
        let one : AnswersWords (cond (is_skipped first) Skip Other) d behind said next =
        subst (λ (b : Bool). AnswersWords (kind_within b first) d behind said next) short here in
        let two : AnswersWords (cond (is_skipped (first_of (words_of t))) Skip Other) d behind said next =
        subst (λ (s : Bool). AnswersWords (cond s Skip Other) d behind said next) (same_skip t (trim_again line)) one in
        let three = long_words (is_skipped (first_of (words_of t))) d behind (rest_of (words_of t)) said next two in
        subst (λ (b : Bool). AnswersWords (kind_within b (first_of (words_of t))) d (rest_of (words_of t)) said next) (sym long) three
  ],
  none,
)
