-- What was recorded, cut at its first line `%%`.
use Rattle.std.proofs.Common.{◌≡◌, ℕ, ◌+◌, ◌-◌, ◌<◌, inl, inr, List, [], ◌∷◌, ◌++◌, length, take, drop, get_or, Some}
use Rattle.std.proofs.Common.{refl, sym, ap, ◌∙◌, subst, arith, length-append, codes}
use Rattle.std.proofs.lemmas.Bool.{cases_order}
use Rattle.std.proofs.lemmas.List.{drop_at, drop-drop, get_or_append_left, get_or_at, get_or-drop, take_at}
use Rattle.std.proofs.lemmas.Option.{get_or_from_slice_get, slice_get-get_or, slice_get_within}
use Rattle.pb_lexer.specs.Cutting.{Cuts}
use Rattle.pb_lexer.specs.Tokens.{Token}
use Rattle.pb_base.specs.Lines.{line}
use Rattle.pb_command_io.specs.Parts.{AreTwoParts, IsMark, IsMarkAt}
use Rattle.pb_accept.specs.RunTexts.{IsEnded}
use Rattle.pb_engines.proofs.EndedTexts.{PercentLine, ended_is_cut, no_percent_line}

-- ---- what begins at a mark

first_of_mark : (xs : List ℕ) → IsMark xs → get_or xs 0 0 ≡ 37
first_of_mark xs (inl is) = ap (λ (ys : List ℕ). get_or ys 0 0) is
first_of_mark xs (inr (after, is)) = ap (λ (ys : List ℕ). get_or ys 0 0) is

percent_at_mark : (text : List ℕ) (at : ℕ) → IsMarkAt text at → PercentLine text at
percent_at_mark text at mark =
    let here : at + 0 ≡ at = omega arith in (
      sym (get_or-drop at text 0 0 ∙ ap (λ (i : ℕ). get_or text i 0) here) ∙ first_of_mark (drop at text) mark.marks,
      elim mark.begins [
        | inl start ↦ inl start
        | inr feed ↦ inr (get_or_from_slice_get text (at - 1) 10 0 feed)
      ],
    )

-- ---- the last byte of a text that is ended

last_is_feed : (text ended : List ℕ) → IsEnded text ended → (0 < length ended) × (get_or ended (length ended - 1) 0 ≡ 10)
last_is_feed text ended (inl (ends, same)) =
    let within = slice_get_within text (length text - 1) 10 ends in
    subst (λ (t : List ℕ). (0 < length t) × (get_or t (length t - 1) 0 ≡ 10)) (sym same)
    (omega (arith, within), get_or_from_slice_get text (length text - 1) 10 0 ends)
last_is_feed text ended (inr (not_ended, same)) =
    let long = length-append text (10 ∷ []) in
    let last : length (line text) - 1 ≡ length text = omega (arith, long) in
    subst (λ (t : List ℕ). (0 < length t) × (get_or t (length t - 1) 0 ≡ 10)) (sym same)
    (omega (arith, long), ap (λ (k : ℕ). get_or (line text) k 0) last ∙ get_or_at text 10 [] 0 (length text) refl)

-- ---- the first mark is after the text

module _ (bytes ended lines : List ℕ) (tokens : List Token) (is_ended : IsEnded bytes ended) (cuts : Cuts bytes tokens) where
  abbrev whole : List ℕ
  whole = ended ++ (line (codes "%%") ++ lines)

  none_before : (at : ℕ) → at < length ended → IsMarkAt whole at → ⊥
  none_before at less mark =
      let percent = percent_at_mark whole at mark in
      no_percent_line ended tokens (ended_is_cut bytes ended tokens is_ended cuts) at less (
        sym (get_or_append_left ended (line (codes "%%") ++ lines) 0 at less) ∙ percent.0,
        elim percent.1 [
          | inl start ↦ inl start
          | inr feed ↦ inr (sym (get_or_append_left ended (line (codes "%%") ++ lines) 0 (at - 1) (omega (arith, less))) ∙ feed)
        ],
      )

  mark_behind : IsMarkAt whole (length ended)
  mark_behind =
      let last = last_is_feed bytes ended is_ended in
      let some = last.0 in
      let long = length-append ended (line (codes "%%") ++ lines) in
      let within : length ended - 1 < length whole = omega (arith, some, long) in
      let before : length ended - 1 < length ended = omega (arith, some) in record {
        begins = inr (slice_get-get_or whole (length ended - 1) 0 within
            ∙ ap Some (get_or_append_left ended (line (codes "%%") ++ lines) 0 (length ended - 1) before ∙ last.1));
        marks = inr (lines, drop_at ended (line (codes "%%") ++ lines) (length ended) refl);
      }

  lines_behind_mark : drop (length ended + 3) whole ≡ lines
  lines_behind_mark =
      sym (drop-drop 3 (length ended) whole)
      ∙ ap (λ (xs : List ℕ). drop 3 xs) (drop_at ended (line (codes "%%") ++ lines) (length ended) refl)

  pub cut_as_written : (text behind : List ℕ) → AreTwoParts whole text behind → (text ≡ ended) × (behind ≡ lines)
  cut_as_written text behind (inl (at, mark, first, part, rest)) = elim (cases_order at (length ended)) [
    | inl same ↦ (
      part ∙ ap (λ (n : ℕ). take n whole) same ∙ take_at ended (line (codes "%%") ++ lines) (length ended) refl,
      rest ∙ ap (λ (n : ℕ). drop (n + 3) whole) same ∙ lines_behind_mark,
    )
    | inr (inl before) ↦ absurd (none_before at before mark)
    | inr (inr past) ↦ absurd (first (length ended) past mark_behind)
  ]
  cut_as_written text behind (inr (same, none, no_mark)) = absurd (no_mark (length ended) mark_behind)
