-- What the loop of `lex` keeps, and how it goes on.
use Rattle.std.proofs.Common.{◌≡◌, ◌<◌, ◌≤◌, ◌-◌, ◌+◌, ℕ, zero, suc, ◌⊎◌, inl, inr, true, false, eqb, List}
use Rattle.std.proofs.Common.{[], ◌∷◌, ◌++◌, length, get_or, refl, sym, ap, ◌∙◌, subst, arith}
use Rattle.std.proofs.lemmas.List.Sums.{count_by_more_yes, count_by_more_no}
use Rattle.std.proofs.lemmas.Bool.{cases_order}
use Rattle.std.proofs.lemmas.Bool.Decides.{nat_tests}
use Rattle.pb_base.specs.declared.limits.TheConstants.{MAX_TEXT}
use Rattle.pb_lexer.specs.declared.token.Token.{Token as Given}
use Rattle.pb_lexer.specs.declared.fault.LexFault.{LexFault}
use Rattle.pb_lexer.specs.declared.fault.LexFault.TheVariants as fault
use Rattle.pb_lexer.specs.Tokens.{Token, token as view, tokens}
use Rattle.pb_lexer.specs.Forms.{is_allowed, is_blank}
use Rattle.pb_lexer.specs.Cutting.{IsToken, IsComment, blank, comment, token, Cut, nothing, more, Fits}
use Rattle.pb_lexer.specs.Cutting.{AllFit, Cause, no_byte_of_a_text, Refuses}
use Rattle.pb_lexer.specs.Cutting.{line_at}
use Rattle.pb_lexer.proofs.Spellings.{is_visible}
use Rattle.pb_lexer.proofs.Bytes.{visible_allowed, no_visible_feed, blank_allowed, slice_here, slice_length}
use Rattle.pb_lexer.proofs.Forms.{form_visible}
use Rattle.pb_lexer.proofs.Faults.{none_before, refuses, fit_more}

-- ---- lines

pub next_line : (text : List ℕ) (at : ℕ) → at < length text → get_or text at 0 ≡ 10
    → line_at text (at + 1) ≡ line_at text at + 1
next_line text at lt is = let e = count_by_more_yes (λ b. eqb b 10) text at 0 lt (rw is refl) in omega arith

pub feed_test : (b : ℕ) → (b ≡ 10 → ⊥) → eqb b 10 ≡ false
feed_test b h = grind (arith, nat_tests)

pub line_goes_on : (text : List ℕ) (at : ℕ) → at < length text → (get_or text at 0 ≡ 10 → ⊥)
    → line_at text (at + 1) ≡ line_at text at
line_goes_on text at lt is =
    let e = count_by_more_no (λ b. eqb b 10) text at 0 lt (feed_test (get_or text at 0) is) in
    omega arith

same_line_by : (text : List ℕ) (at n : ℕ) → at + n ≤ length text
    → ((k : ℕ) → at ≤ k → k < at + n → get_or text k 0 ≡ 10 → ⊥) → line_at text (at + n) ≡ line_at text at
same_line_by text at zero le h = ap (line_at text) (omega arith)
same_line_by text at (suc n) le h =
    let e : at + suc n ≡ (at + n) + 1 = omega arith in
    let before = same_line_by text at n (omega arith) (λ k low high. h k low (omega arith)) in
    let last = line_goes_on text (at + n) (omega arith) (h (at + n) (omega arith) (omega arith)) in
    ap (line_at text) e ∙ last ∙ before

pub same_line : (text : List ℕ) (at end : ℕ) → at ≤ end → end ≤ length text
    → ((k : ℕ) → at ≤ k → k < end → get_or text k 0 ≡ 10 → ⊥) → line_at text end ≡ line_at text at
same_line text at end low high h =
    let e : end ≡ at + (end - at) = omega arith in
    ap (line_at text) e ∙ same_line_by text at (end - at) (omega arith) (λ k a b. h k a (omega arith))

-- ---- the loop

pub record Lexed (text : List ℕ) (at line : ℕ) (ts : List Token) : Type 0 where
  pub within : at ≤ length text
  pub cut : Cut text at ts
  pub fit : AllFit ts
  pub allowed : (k : ℕ) → k < at → is_allowed (get_or text k 0) ≡ true
  pub line_is : line ≡ line_at text at
  pub few : line ≤ at + 1

append_none : (ts : List Token) → ts ++ [] ≡ ts
append_none [] = refl
append_none (t ∷ ts) = ap (λ x. t ∷ x) (append_none ts)

pub lexed_start : (text : List ℕ) → Lexed text 0 1 []
lexed_start text =
    record {
      within = omega arith;
      cut = nothing;
      fit = tt;
      allowed = λ k lt. absurd (omega arith);
      line_is = refl;
      few = omega arith;
    }

allowed_on : (text : List ℕ) (at end : ℕ) → ((k : ℕ) → k < at → is_allowed (get_or text k 0) ≡ true)
    → ((k : ℕ) → at ≤ k → k < end → is_allowed (get_or text k 0) ≡ true)
    → (k : ℕ) → k < end → is_allowed (get_or text k 0) ≡ true
allowed_on text at end before here k lt = elim (cases_order k at) [
  | inl same ↦ here k (omega arith) lt
  | inr (inl a) ↦ before k a
  | inr (inr b) ↦ here k (omega arith) lt
]

blank_cut : (text : List ℕ) (at line new : ℕ) (ts : List Token) → Lexed text at line ts → at < length text
    → is_blank (get_or text at 0) ≡ true → new ≡ line_at text (at + 1) → new ≤ at + 2
    → Lexed text (at + 1) new ts
blank_cut text at line new ts x lt b is few = record {
  within = omega arith;
  cut = subst (λ us. Cut text (at + 1) us) (append_none ts) (more x.cut (blank lt b refl));
  fit = x.fit;
  allowed =
      allowed_on text at (at + 1) x.allowed (λ k low high.
      let e : k ≡ at = omega arith in
      blank_allowed (get_or text k 0) (rw e b));
  line_is = is;
  few = omega arith;
}

pub blank_feed : (text : List ℕ) (at line : ℕ) (ts : List Token) → Lexed text at line ts → at < length text
    → get_or text at 0 ≡ 10 → Lexed text (at + 1) (line + 1) ts
blank_feed text at line ts x lt feed =
    let is : line + 1 ≡ line_at text (at + 1) = omega (arith, x.line_is, next_line text at lt feed) in
    blank_cut text at line (line + 1) ts x lt (rw feed refl) is (omega (arith, x.few))

pub blank_other : (text : List ℕ) (at line : ℕ) (ts : List Token) → Lexed text at line ts → at < length text
    → is_blank (get_or text at 0) ≡ true → (get_or text at 0 ≡ 10 → ⊥) → Lexed text (at + 1) line ts
blank_other text at line ts x lt b other =
    let is = x.line_is ∙ sym (line_goes_on text at lt other) in
    blank_cut text at line line ts x lt b is (omega (arith, x.few))

pub comment_over : (text : List ℕ) (at line end : ℕ) (ts : List Token) → Lexed text at line ts
    → IsComment text at end → ((k : ℕ) → at ≤ k → k < end → is_allowed (get_or text k 0) ≡ true)
    → Lexed text end line ts
comment_over text at line end ts x c all = record {
  within = c.within;
  cut = subst (λ us. Cut text end us) (append_none ts) (more x.cut (comment c));
  fit = x.fit;
  allowed = allowed_on text at end x.allowed all;
  line_is = x.line_is ∙ sym (same_line text at end (omega (arith, c.long)) c.within c.one_line);
  few = omega (arith, x.few, c.long);
}

token_visible : {text : List ℕ} {at end : ℕ} {t : Token} → IsToken text at end t → (k : ℕ) → at ≤ k → k < end
    → is_visible (get_or text k 0) ≡ true
token_visible {text = text} {at = at} {end = end} t k low high =
    sym (ap is_visible (slice_here text at end k low high))
    ∙ form_visible t.form (k - at) (omega (arith, slice_length text at end t.within))

token_one_line : {text : List ℕ} {at end : ℕ} {t : Token} → IsToken text at end t
    → (k : ℕ) → at ≤ k → k < end → get_or text k 0 ≡ 10 → ⊥
token_one_line tok k low high feed = let v = token_visible tok k low high in no_visible_feed (rw feed at v)

pub token_over : (text : List ℕ) (at line end : ℕ) (ts : List Token) (t : Token) → Lexed text at line ts
    → IsToken text at end t → Fits t.lexeme → Lexed text end line (ts ++ t ∷ [])
token_over text at line end ts t x tok fits = record {
  within = tok.within;
  cut = more x.cut (token tok);
  fit = fit_more ts (t ∷ []) x.fit (fits, tt);
  allowed =
      allowed_on text at end x.allowed (λ k low high.
      visible_allowed (get_or text k 0) (token_visible tok k low high));
  line_is =
      x.line_is ∙ sym (same_line text at end (omega (arith, tok.before_end)) tok.within (token_one_line tok));
  few = omega (arith, x.few, tok.before_end);
}

-- ---- faults

pub fault_here : (text : List ℕ) (at line : ℕ) (ts : List Token) (e : LexFault) → Lexed text at line ts
    → length text ≤ MAX_TEXT → Cause text at e → Refuses text e
fault_here text at line ts e x short cause =
    refuses short cause (none_before x.cut x.fit (omega arith) x.allowed)

pub fault_in_comment : (text : List ℕ) (at line end bad : ℕ) (ts : List Token) → Lexed text at line ts
    → length text ≤ MAX_TEXT → IsComment text at end
    → at ≤ bad → bad < end → is_allowed (get_or text bad 0) ≡ false
    → ((k : ℕ) → at ≤ k → k < bad → is_allowed (get_or text k 0) ≡ true)
    → Refuses text (fault.BadByte bad)
fault_in_comment text at line end bad ts x short c low high is all =
    let within = c.within in
    refuses short (no_byte_of_a_text (omega arith) is)
    (none_before (more x.cut (comment c)) (fit_more ts [] x.fit tt) (omega arith)
    (allowed_on text at bad x.allowed all))

-- ---- comments

pub comment_there : (text : List ℕ) (at end : ℕ)
    → (at + 2 ≤ length text) × (get_or text at 0 ≡ 47) × (get_or text (at + 1) 0 ≡ 47)
    → (at ≤ end) × (end ≤ length text)
    → ((k : ℕ) → at ≤ k → k < end → get_or text k 0 ≡ 10 → ⊥) → (end ≡ length text) ⊎ (get_or text end 0 ≡ 10)
    → IsComment text at end
comment_there text at end begins range each stops = record {
  long = elim stops [ inl all ↦ omega (arith, begins.0) | inr feed ↦ long_by feed ];
  within = range.1;
  slash = begins.1;
  another = begins.2;
  one_line = each;
  ends = stops;
}
  where
    long_by : get_or text end 0 ≡ 10 → at + 2 ≤ end
    long_by feed = elim (cases_order end at) [
      | inl same ↦ (let e = ap (λ n. get_or text n 0) same in let s = begins.1 in absurd (omega arith))
      | inr (inl less) ↦ absurd (omega (arith, range.0))
      | inr (inr past) ↦ elim (cases_order end (at + 1)) [
        | inl same ↦ (let e = ap (λ n. get_or text n 0) same in let s = begins.2 in absurd (omega arith))
        | inr (inl less) ↦ omega arith
        | inr (inr over) ↦ omega arith
      ]
    ]

pub tokens_more : (xs : List Given) (t : Given) → tokens (xs ++ t ∷ []) ≡ tokens xs ++ view t ∷ []
tokens_more [] t = refl
tokens_more (x ∷ xs) t = ap (λ ts. view x ∷ ts) (tokens_more xs t)
