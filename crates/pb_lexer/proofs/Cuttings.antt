-- Two cuttings of a text go the same way.
use Rattle.std.proofs.Common.{◌≡◌, ◌<◌, ◌≤◌, ℕ, ◌⊎◌, inl, inr, true, List, [], ◌∷◌, ◌++◌, get_or, slice_range}
use Rattle.std.proofs.Common.{refl, sym, ap, ◌∙◌, subst, arith}
use Rattle.std.proofs.lemmas.Bool.{cases_order}
use Rattle.pb_lexer.specs.Tokens.{Token}
use Rattle.pb_lexer.specs.Forms.{is_blank, Form}
use Rattle.pb_lexer.specs.Cutting.{IsToken, IsComment, Piece, blank, comment, token, Cut, nothing, more, Cuts}
use Rattle.pb_lexer.proofs.Spellings.{starts}
use Rattle.pb_lexer.proofs.Bytes.{starts_no_blank, starts_no_slash, blank_no_slash, slice_first}
use Rattle.pb_lexer.proofs.Forms.{form_starts, same_form}

pub token_starts : {text : List ℕ} {at end : ℕ} {t : Token} → IsToken text at end t
    → starts (get_or text at 0) ≡ true
token_starts {text = text} {at = at} {end = end} t =
    sym (ap starts (slice_first text at end t.before_end)) ∙ form_starts t.form

pub comment_ends : {text : List ℕ} {at e f : ℕ} → IsComment text at e → IsComment text at f → e < f → ⊥
comment_ends {text = text} {at = at} {e = e} {f = f} x y lt =
    elim x.ends [
      | inl all ↦ (let w = y.within in omega arith)
      | inr feed ↦ y.one_line e (omega (arith, x.long)) lt feed
    ]

same_comment_end : {text : List ℕ} {at e f : ℕ} → IsComment text at e → IsComment text at f → e ≡ f
same_comment_end {e = e} {f = f} c d = elim (cases_order e f) [
  | inl same ↦ same
  | inr (inl lt) ↦ absurd (comment_ends c d lt)
  | inr (inr lt) ↦ absurd (comment_ends d c lt)
]

pub same_end : {text : List ℕ} {at e f : ℕ} {t u : Token} → IsToken text at e t → IsToken text at f u → e ≡ f
same_end {text = text} {at = at} {e = e} {f = f} {t = t} {u = u} x y =
    elim (cases_order e f) [
      | inl same ↦ same
      | inr (inl lt) ↦ absurd (x.longest f u.lexeme lt y.within y.form)
      | inr (inr lt) ↦ absurd (y.longest e t.lexeme lt x.within x.form)
    ]

same_fields : (t u : Token) → t.lexeme ≡ u.lexeme → t.text ≡ u.text → t.start ≡ u.start → t.end ≡ u.end
    → t.line ≡ u.line → t ≡ u
same_fields t u a b c d e = λ i. record { lexeme = a i; text = b i; start = c i; end = d i; line = e i }

pub same_token : {text : List ℕ} {at e f : ℕ} {t u : Token} → IsToken text at e t → IsToken text at f u
    → t ≡ u
same_token {text = text} {at = at} {e = e} {f = f} {t = t} {u = u} x y =
    let same = same_end x y in
    let slices : slice_range text at e ≡ slice_range text at f = ap (λ k. slice_range text at k) same in
    let form : Form (slice_range text at f) t.lexeme = subst (λ bytes. Form bytes t.lexeme) slices x.form in
    same_fields t u (same_form form y.form)
    (x.text_is ∙ slices ∙ sym y.text_is)
    (x.start_is ∙ sym y.start_is)
    (x.end_is ∙ same ∙ sym y.end_is)
    (x.line_is ∙ sym y.line_is)

comment_no_blank : {text : List ℕ} {at e : ℕ} → IsComment text at e → is_blank (get_or text at 0) ≡ true → ⊥
comment_no_blank c b = blank_no_slash (rw c.slash at b)

token_no_comment : {text : List ℕ} {at e f : ℕ} {t : Token} → IsToken text at e t → IsComment text at f → ⊥
token_no_comment t c = let s = token_starts t in starts_no_slash (rw c.slash at s)

token_no_blank : {text : List ℕ} {at e : ℕ} {t : Token} → IsToken text at e t
    → is_blank (get_or text at 0) ≡ true → ⊥
token_no_blank {text = text} {at = at} t b = starts_no_blank (get_or text at 0) (token_starts t) b

-- one piece is at an offset
pub same_piece : {text : List ℕ} {at e f : ℕ} {new other : List Token} → Piece text at e new
    → Piece text at f other → (e ≡ f) × (new ≡ other)
same_piece (blank lt b e) (blank lt' b' f) = (e ∙ sym f, refl)
same_piece (blank lt b e) (comment c) = absurd (comment_no_blank c b)
same_piece (blank lt b e) (token t) = absurd (token_no_blank t b)
same_piece (comment c) (blank lt b e) = absurd (comment_no_blank c b)
same_piece (comment c) (comment d) = (same_comment_end c d, refl)
same_piece (comment c) (token t) = absurd (token_no_comment t c)
same_piece (token t) (blank lt b e) = absurd (token_no_blank t b)
same_piece (token t) (comment c) = absurd (token_no_comment t c)
same_piece (token t) (token u) = (same_end t u, ap (λ x. x ∷ []) (same_token t u))

pub piece_goes_on : {text : List ℕ} {at e : ℕ} {new : List Token} → Piece text at e new → at < e
piece_goes_on (blank lt b e) = omega arith
piece_goes_on (comment c) = omega (arith, c.long)
piece_goes_on (token t) = t.before_end

-- ---- from one offset of a cutting to a later one

pub data Steps (text : List ℕ) : ℕ → List Token → ℕ → List Token → Type 0 where
  here : {at : ℕ} {ts : List Token} → Steps text at ts at ts
  step : {at mid end : ℕ} {ts new us : List Token} → Piece text at mid new → Steps text mid (ts ++ new) end us
      → Steps text at ts end us

pub steps_up : {text : List ℕ} {at end : ℕ} {ts us : List Token} → Steps text at ts end us → at ≤ end
steps_up here = omega arith
steps_up (step p s) = let a = steps_up s in let b = piece_goes_on p in omega arith

steps_more : {text : List ℕ} {at mid end : ℕ} {ts us new : List Token} → Steps text at ts mid us
    → Piece text mid end new → Steps text at ts end (us ++ new)
steps_more here p = step p here
steps_more (step q s) p = step q (steps_more s p)

steps_all : {text : List ℕ} {end : ℕ} {us : List Token} → Cut text end us → Steps text 0 [] end us
steps_all nothing = here
steps_all (more c p) = steps_more (steps_all c) p

-- one of two cuttings goes on from the other
pub compare_cuts : {text : List ℕ} {p q : ℕ} {ts us : List Token} → Cut text p ts → Cut text q us
    → (Steps text p ts q us) ⊎ (Steps text q us p ts)
compare_cuts nothing d = inl (steps_all d)
compare_cuts (more c p) d = on p (compare_cuts c d)
  where
    on : {text : List ℕ} {at p q : ℕ} {ts us new : List Token} → Piece text at p new
        → (Steps text at ts q us) ⊎ (Steps text q us at ts)
        → (Steps text p (ts ++ new) q us) ⊎ (Steps text q us p (ts ++ new))
    on p (inl here) = inr (step p here)
    on {text = text} {q = q} {ts = ts} {us = us} {new = new} p (inl (step {mid = mid} {new = other} r s)) =
        let same = same_piece r p in
        let on_new = subst (λ n. Steps text mid (ts ++ n) q us) same.1 s in
        inl (subst (λ n. Steps text n (ts ++ new) q us) same.0 on_new)
    on p (inr s) = inr (steps_more s p)

same_place : {text : List ℕ} {p q : ℕ} {ts us : List Token} → p ≡ q → Steps text p ts q us → ts ≡ us
same_place e here = refl
same_place e (step p s) = let a = steps_up s in let b = piece_goes_on p in absurd (omega arith)

-- a text is cut in one way
pub one_cutting : (text : List ℕ) (a b : List Token) → Cuts text a → Cuts text b → a ≡ b
one_cutting text a b x y = elim (compare_cuts x y) [
  | inl s ↦ same_place refl s
  | inr s ↦ sym (same_place refl s)
]
