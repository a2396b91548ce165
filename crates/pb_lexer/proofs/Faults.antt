-- Where the causes of faults are.
use Rattle.std.proofs.Common.{◌≡◌, ◌<◌, ◌≤◌, ◌<ℤ◌, ◌≤ℤ◌, ℕ, ℤ, pos, inl, inr, true, List, [], ◌∷◌, ◌++◌}
use Rattle.std.proofs.Common.{length, get_or, refl, sym, ap, ◌∙◌, subst, arith}
use Rattle.std.proofs.lemmas.Bool.{cases_order}
use Rattle.std.proofs.lemmas.Int.{ints}
use Rattle.pb_base.specs.declared.limits.TheConstants.{MAX_NAME, MAX_NUMBER, MAX_TEXT}
use Rattle.pb_lexer.specs.declared.fault.LexFault.{LexFault}
use Rattle.pb_lexer.specs.declared.fault.LexFault.TheVariants as fault
use Rattle.pb_lexer.specs.Tokens.{Lexeme, Name, Number, Fixed, Token}
use Rattle.pb_lexer.specs.Forms.{is_allowed}
use Rattle.pb_lexer.specs.Cutting.{IsToken, Piece, token, Cut, Fits, AllFit, AreTokensOf, Cause}
use Rattle.pb_lexer.specs.Cutting.{no_byte_of_a_text, nothing_begins, large_number, long_name, First, Refuses}
use Rattle.pb_lexer.proofs.Bytes.{starts_allowed}
use Rattle.pb_lexer.proofs.Cuttings.{Steps, here, step, steps_up, same_piece, same_token, compare_cuts}
use Rattle.pb_lexer.proofs.Cuttings.{token_starts}

pub fit_front : (ts us : List Token) → AllFit (ts ++ us) → AllFit us
fit_front [] us h = h
fit_front (t ∷ ts) us h = fit_front ts us h.1

pub fit_more : (ts us : List Token) → AllFit ts → AllFit us → AllFit (ts ++ us)
fit_more [] us h k = k
fit_more (t ∷ ts) us h k = (h.0, fit_more ts us h.1 k)

fit_earlier : (ts us : List Token) → AllFit (ts ++ us) → AllFit ts
fit_earlier [] us h = tt
fit_earlier (t ∷ ts) us h = (h.0, fit_earlier ts us h.1)

fit_before : {text : List ℕ} {at end : ℕ} {ts us : List Token} → Steps text at ts end us → AllFit us
    → AllFit ts
fit_before here h = h
fit_before (step {ts = ts} {new = new} p s) h = fit_earlier ts new (fit_before s h)

no_large : (l : Lexeme) (n : ℤ) → Fits l → l ≡ Number n → pos MAX_NUMBER <ℤ n → ⊥
no_large (Number m) n fits e large =
    let same : m ≡ n = cc in
    let f : n ≤ℤ pos MAX_NUMBER = subst (λ x. x ≤ℤ pos MAX_NUMBER) same fits in
    omega (arith, ints)
no_large (Name x) n fits e large = cc
no_large (Fixed m) n fits e large = cc

no_long : (l : Lexeme) (x : List ℕ) → Fits l → l ≡ Name x → MAX_NAME < length x → ⊥
no_long (Name y) x fits e long =
    let same : y ≡ x = cc in
    let f = subst (λ z. length z ≤ MAX_NAME) same fits in
    omega arith
no_long (Number m) n fits e large = cc
no_long (Fixed m) n fits e large = cc

next_step : {text : List ℕ} {q p : ℕ} {us ts : List Token} → Steps text q us p ts → q < p
    → (mid : ℕ) × (new : List Token) × (Piece text q mid new) × (Steps text mid (us ++ new) p ts)
next_step here lt = absurd (omega arith)
next_step (step {mid = mid} {new = new} r s) lt = (mid, new, r, s)

-- an earlier offset of a cutting goes on with a piece
goes_on : {text : List ℕ} {p q : ℕ} {ts us : List Token} → Cut text p ts → q < p → Cut text q us
    → (mid : ℕ) × (new : List Token) × (Piece text q mid new) × (Steps text mid (us ++ new) p ts)
goes_on c lt d = elim (compare_cuts d c) [
  | inl s ↦ next_step s lt
  | inr s ↦ (let up = steps_up s in absurd (omega arith))
]

token_fits : {text : List ℕ} {p q end : ℕ} {ts us : List Token} {t : Token} → Cut text p ts → AllFit ts
    → q < p → Cut text q us → IsToken text q end t → Fits t.lexeme
token_fits {us = us} {t = t} c fit lt d tok =
    let x = goes_on c lt d in
    let same = same_piece x.2 (token tok) in
    let after = subst (λ n. AllFit (us ++ n)) same.1 (fit_before x.3 fit) in
    (fit_front us (t ∷ []) after).0

-- where a cutting that fits goes, no cause is before the first byte that is not allowed
pub none_before : {text : List ℕ} {p q : ℕ} {ts : List Token} → Cut text p ts → AllFit ts → q ≤ p
    → ((k : ℕ) → k < q → is_allowed (get_or text k 0) ≡ true)
    → (place : ℕ) (e : LexFault) → place < q → Cause text place e → ⊥
none_before c fit le allowed place _ lt (no_byte_of_a_text in_text bad) = let yes = allowed place lt in cc
none_before c fit le allowed place _ lt (nothing_begins d in_text none) =
    let x = goes_on c (omega arith) d in
    none x.0 x.1 x.2
none_before c fit le allowed place _ lt (large_number {t = t} {n = n} d tok is large) =
    no_large t.lexeme n (token_fits c fit (omega arith) d tok) is large
none_before c fit le allowed place _ lt (long_name {t = t} {x = x} d tok is long) =
    no_long t.lexeme x (token_fits c fit (omega arith) d tok) is long

-- a fault is the first cause
pub refuses : {text : List ℕ} {at : ℕ} {e : LexFault} → length text ≤ MAX_TEXT → Cause text at e
    → ((place : ℕ) (other : LexFault) → place < at → Cause text place other → ⊥) → Refuses text e
refuses short (no_byte_of_a_text a b) none =
    record { short = short; cause = no_byte_of_a_text a b; none_earlier = none }
refuses short (nothing_begins a b d) none =
    record { short = short; cause = nothing_begins a b d; none_earlier = none }
refuses short (large_number a b d f) none =
    record { short = short; cause = large_number a b d f; none_earlier = none }
refuses short (long_name a b d f) none =
    record { short = short; cause = long_name a b d f; none_earlier = none }

-- ---- a text has tokens or one fault

cause_in : {text : List ℕ} {at : ℕ} {e : LexFault} → Cause text at e → at < length text
cause_in (no_byte_of_a_text a b) = a
cause_in (nothing_begins a b d) = b
cause_in (large_number a b d f) = omega (arith, b.before_end, b.within)
cause_in (long_name a b d f) = omega (arith, b.before_end, b.within)

no_cause : {text : List ℕ} {ts : List Token} {at : ℕ} {e : LexFault} → AreTokensOf text ts → Cause text at e
    → ⊥
no_cause {text = text} {at = at} {e = e} x cause =
    none_before x.cuts x.fit (omega arith) x.allowed at e (cause_in cause) cause

pub no_fault : (text : List ℕ) (ts : List Token) (e : LexFault) → AreTokensOf text ts
    → (e ≡ fault.NoMemory → ⊥) → Refuses text e → ⊥
no_fault text ts fault.TooLong x real h = let s = x.short in omega arith
no_fault text ts (fault.BadByte at) x real h = no_cause x h.cause
no_fault text ts (fault.NumberTooLarge at) x real h = no_cause x h.cause
no_fault text ts (fault.NameTooLong at) x real h = no_cause x h.cause
no_fault text ts fault.NoMemory x real h = real refl

token_allowed : {text : List ℕ} {at end : ℕ} {t : Token} → IsToken text at end t
    → is_allowed (get_or text at 0) ≡ true
token_allowed {text = text} {at = at} t = starts_allowed (get_or text at 0) (token_starts t)

-- one cause is at an offset
one_cause : {text : List ℕ} {at : ℕ} {e f : LexFault} → Cause text at e → Cause text at f → e ≡ f
one_cause (no_byte_of_a_text a b) (no_byte_of_a_text a' b') = refl
one_cause (no_byte_of_a_text a b) (nothing_begins a' b' c') = refl
one_cause (no_byte_of_a_text a b) (large_number c t is large) = let yes = token_allowed t in cc
one_cause (no_byte_of_a_text a b) (long_name c t is large) = let yes = token_allowed t in cc
one_cause (nothing_begins a b c) (no_byte_of_a_text a' b') = refl
one_cause (nothing_begins a b c) (nothing_begins a' b' c') = refl
one_cause (nothing_begins a b none) (large_number c t is large) = absurd (none _ _ (token t))
one_cause (nothing_begins a b none) (long_name c t is large) = absurd (none _ _ (token t))
one_cause (large_number c t is large) (no_byte_of_a_text a b) = let yes = token_allowed t in cc
one_cause (large_number c t is large) (nothing_begins a b none) = absurd (none _ _ (token t))
one_cause (large_number c t is large) (large_number c' t' is' large') = refl
one_cause (large_number c t is large) (long_name c' t' is' long) =
    let same = ap (λ x. x.lexeme) (same_token t t') in
    cc
one_cause (long_name c t is large) (no_byte_of_a_text a b) = let yes = token_allowed t in cc
one_cause (long_name c t is large) (nothing_begins a b none) = absurd (none _ _ (token t))
one_cause (long_name c t is large) (large_number c' t' is' large') =
    let same = ap (λ x. x.lexeme) (same_token t t') in
    cc
one_cause (long_name c t is large) (long_name c' t' is' long) = refl

one_first : {text : List ℕ} {p q : ℕ} {e f : LexFault} → First text p e → First text q f → e ≡ f
one_first {text = text} {p = p} {q = q} {e = e} {f = f} x y = elim (cases_order p q) [
  | inl same ↦ one_cause (subst (λ n. Cause text n e) same x.cause) y.cause
  | inr (inl lt) ↦ absurd (y.none_earlier p e lt x.cause)
  | inr (inr lt) ↦ absurd (x.none_earlier q f lt y.cause)
]

-- what a refusal that is not for memory is
data Ways (text : List ℕ) (e : LexFault) : Type 0 where
  long : e ≡ fault.TooLong → MAX_TEXT < length text → Ways text e
  first : {at : ℕ} → First text at e → Ways text e

way : (text : List ℕ) (e : LexFault) → (e ≡ fault.NoMemory → ⊥) → Refuses text e → Ways text e
way text fault.TooLong real h = long refl h
way text (fault.BadByte at) real h = first h
way text (fault.NumberTooLarge at) real h = first h
way text (fault.NameTooLong at) real h = first h
way text fault.NoMemory real h = absurd (real refl)

pub one_fault : (text : List ℕ) (e f : LexFault) → (e ≡ fault.NoMemory → ⊥) → (f ≡ fault.NoMemory → ⊥)
    → Refuses text e → Refuses text f → e ≡ f
one_fault text e f real real' x y = on (way text e real x) (way text f real' y)
  where
    on : Ways text e → Ways text f → e ≡ f
    on (long a b) (long c d) = a ∙ sym c
    on (long a b) (first y) = let s = y.short in absurd (omega arith)
    on (first x) (long c d) = let s = x.short in absurd (omega arith)
    on (first x) (first y) = one_first x y
