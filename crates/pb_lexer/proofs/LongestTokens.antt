-- The token that is at an offset.
use Rattle.std.proofs.Common.{◌≡◌, ◌<◌, ◌≤◌, ◌-◌, ◌+◌, ℕ, pos, zero, suc, inl, inr, true, false, List, []}
use Rattle.std.proofs.Common.{◌∷◌, length, get_or, take, drop, slice_range, refl, sym, ap, ◌∙◌, subst, arith}
use Rattle.std.proofs.Common.{drop-cons}
use Rattle.std.proofs.lemmas.Bool.{cases_order}
use Rattle.std.specs.Char.{is_ascii_alphabetic, is_ascii_digit}
use Rattle.pb_lexer.specs.declared.token.Mark.{Mark}
use Rattle.pb_lexer.specs.declared.fault.LexFault.TheVariants as fault
use Rattle.pb_lexer.specs.Tokens.{Lexeme, Number, Token}
use Rattle.pb_lexer.specs.Forms.{is_blank, is_word, spelling, value, IsWord, Form, number}
use Rattle.pb_lexer.specs.Cutting.{IsToken, IsComment, Piece, blank, comment, token, Cut, Cause}
use Rattle.pb_lexer.specs.Cutting.{nothing_begins, line_at}
use Rattle.pb_lexer.proofs.Bytes.{letter_word, slice_at, slice_first, slice_length}
use Rattle.pb_lexer.proofs.Forms.{symbol_there}

abbrev pub Longest : List ℕ → ℕ → ℕ → Type 0
Longest text at end =
    (further : ℕ) (l : Lexeme) → end < further → further ≤ length text
    → Form (slice_range text at further) l → ⊥

abbrev pub token_of : List ℕ → ℕ → ℕ → ℕ → Lexeme → Token
token_of text at end line l =
    record { lexeme = l; text = slice_range text at end; start = at; end = end; line = line }

pub built : (text : List ℕ) (at end line : ℕ) (l : Lexeme) → at < end → end ≤ length text
    → line ≡ line_at text at → Form (slice_range text at end) l → Longest text at end
    → IsToken text at end (token_of text at end line l)
built text at end line l lt le is form longest =
    record {
      before_end = lt;
      within = le;
      form = form;
      longest = longest;
      text_is = refl;
      start_is = refl;
      end_is = refl;
      line_is = is;
    }

word_each : (text : List ℕ) (at end : ℕ) → is_ascii_alphabetic (get_or text at 0) ≡ true
    → ((k : ℕ) → at + 1 ≤ k → k < end → is_word (get_or text k 0) ≡ true)
    → (k : ℕ) → at + k < end → is_word (get_or text (at + k) 0) ≡ true
word_each text at end letter each zero lt =
    let e : at + 0 ≡ at = omega arith in
    rw e (letter_word (get_or text at 0) letter)
word_each text at end letter each (suc k) lt = each (at + suc k) (omega arith) lt

pub word_slice : (text : List ℕ) (at end : ℕ) → at < end → end ≤ length text
    → is_ascii_alphabetic (get_or text at 0) ≡ true
    → ((k : ℕ) → at + 1 ≤ k → k < end → is_word (get_or text k 0) ≡ true)
    → IsWord (slice_range text at end)
word_slice text at end lt le letter each = record {
  letter = ap is_ascii_alphabetic (slice_first text at end lt) ∙ letter;
  each = λ k inside.
      let room : at + k < end = omega (arith, slice_length text at end le) in
      ap is_word (slice_at text at end k room) ∙ word_each text at end letter each k room;
}

pub digits_each : (text : List ℕ) (at end : ℕ) → end ≤ length text
    → ((k : ℕ) → at ≤ k → k < end → is_ascii_digit (get_or text k 0) ≡ true)
    → (k : ℕ) → k < length (slice_range text at end)
    → is_ascii_digit (get_or (slice_range text at end) k 0) ≡ true
digits_each text at end le each k inside =
    let room : at + k < end = omega (arith, slice_length text at end le) in
    ap is_ascii_digit (slice_at text at end k room) ∙ each (at + k) (omega arith) room

pub digits_form : (text : List ℕ) (at end : ℕ) → at < end → end ≤ length text
    → ((k : ℕ) → at ≤ k → k < end → is_ascii_digit (get_or text k 0) ≡ true)
    → Form (slice_range text at end) (Number (pos (value (slice_range text at end))))
digits_form text at end lt le each =
    number (omega (arith, slice_length text at end le)) (digits_each text at end le each)

pub beyond : (text : List ℕ) (at end : ℕ) → is_ascii_digit (get_or text at 0) ≡ true
    → (end < length text → is_ascii_digit (get_or text end 0) ≡ false) → at < length text → at ≤ end
    → at < end
beyond text at end digit stops lt le = elim (cases_order at end) [
  | inl same ↦ (let past = stops (omega arith) in let here = digit_there same in cc)
  | inr (inl less) ↦ less
  | inr (inr more) ↦ absurd (omega arith)
]
  where
    digit_there : at ≡ end → is_ascii_digit (get_or text end 0) ≡ true
    digit_there same = subst (λ n. is_ascii_digit (get_or text n 0) ≡ true) same digit

-- ---- symbols

pub slice_one : (text : List ℕ) (at : ℕ) → at < length text
    → slice_range text at (at + 1) ≡ get_or text at 0 ∷ []
slice_one text at lt =
    let n : (at + 1) - at ≡ 1 = omega arith in
    rw (n, drop-cons text at 0 lt) refl

pub slice_two : (text : List ℕ) (at : ℕ) → at + 1 < length text
    → slice_range text at (at + 2) ≡ get_or text at 0 ∷ get_or text (at + 1) 0 ∷ []
slice_two text at lt =
    let n : (at + 2) - at ≡ 2 = omega arith in
    let one : at < length text = omega arith in
    let s : suc at ≡ at + 1 = omega arith in
    let front : drop at text ≡ get_or text at 0 ∷ get_or text (at + 1) 0 ∷ drop (suc (at + 1)) text =
    drop-cons text at 0 one
    ∙ ap (λ r. get_or text at 0 ∷ r) (ap (λ k. drop k text) s ∙ drop-cons text (at + 1) 0 lt) in
    ap (λ k. take k (drop at text)) n ∙ ap (λ xs. take 2 xs) front

-- the byte at an offset, without the next, and with it
abbrev pub NoTwo : List ℕ → ℕ → Type 0
NoTwo text at =
    at + 1 < length text → (m : Mark) → spelling m ≡ get_or text at 0 ∷ get_or text (at + 1) 0 ∷ [] → ⊥

module _ (text : List ℕ) (at : ℕ) (in_text : at < length text)
    (letter : is_ascii_alphabetic (get_or text at 0) ≡ false)
    (digit : is_ascii_digit (get_or text at 0) ≡ false) where
  pub longest_two : Longest text at (at + 2)
  longest_two further l lt le form =
      let x = symbol_there text at further l (omega arith) le letter digit form in
      omega (arith, x.2)

  not_two : NoTwo text at → (further : ℕ) (l : Lexeme) → further ≡ at + 2 → further ≤ length text
      → Form (slice_range text at further) l → ⊥
  not_two no_two further l e le form =
      let x = symbol_there text at further l (omega arith) le letter digit form in
      no_two (omega arith) x.0 (sym x.1 ∙ ap (λ n. slice_range text at n) e ∙ slice_two text at (omega arith))

  pub longest_one : NoTwo text at → Longest text at (at + 1)
  longest_one no_two further l lt le form =
      let x = symbol_there text at further l (omega arith) le letter digit form in
      let e : further ≡ at + 2 = omega (arith, x.2) in
      not_two no_two further l e le form

  no_token : NoTwo text at → ((m : Mark) → spelling m ≡ get_or text at 0 ∷ [] → ⊥) → {end : ℕ} {t : Token}
      → IsToken text at end t → ⊥
  no_token no_two no_one {end = end} {t = t} tok =
      let lt = tok.before_end in
      let le = tok.within in
      let x = symbol_there text at end t.lexeme lt le letter digit tok.form in
      let room = x.2 in
      elim (cases_order end (at + 2)) [
        | inl two ↦ not_two no_two end t.lexeme two le tok.form
        | inr (inl less) ↦
            (let e : end ≡ at + 1 = omega arith in
            no_one x.0 (sym x.1 ∙ ap (λ n. slice_range text at n) e ∙ slice_one text at in_text))
        | inr (inr more) ↦ omega arith
      ]

  no_piece : NoTwo text at → ((m : Mark) → spelling m ≡ get_or text at 0 ∷ [] → ⊥)
      → is_blank (get_or text at 0) ≡ false → ((end : ℕ) → IsComment text at end → ⊥)
      → {end : ℕ} {new : List Token} → Piece text at end new → ⊥
  no_piece no_two no_one no_blank no_comment (blank lt b e) = cc
  no_piece no_two no_one no_blank no_comment {end = end} (comment c) = no_comment end c
  no_piece no_two no_one no_blank no_comment (token t) = no_token no_two no_one t

  pub nothing_there : NoTwo text at → ((m : Mark) → spelling m ≡ get_or text at 0 ∷ [] → ⊥)
      → is_blank (get_or text at 0) ≡ false → ((end : ℕ) → IsComment text at end → ⊥)
      → (ts : List Token) → Cut text at ts → Cause text at (fault.BadByte at)
  nothing_there no_two no_one no_blank no_comment ts c =
      nothing_begins c in_text (λ end new piece. no_piece no_two no_one no_blank no_comment piece)
