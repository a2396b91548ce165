-- The tokens of a text are on its lines, and the names among them are names.
use Rattle.std.proofs.Common.{◌≡◌, ℕ, zero, suc, ◌<◌, ◌≤◌, false, true, List, [], ◌∷◌, ◌++◌, length, map}
use Rattle.std.proofs.Common.{get_or, refl, sym, subst, take, arith}
use Rattle.std.specs.Prelude.{Contains, slice_range, ◌==◌}
use Rattle.std.proofs.lemmas.List.{length-take-le}
use Rattle.std.proofs.lemmas.List.Sums.{count_by-le-length}
use Rattle.pb_lexer.specs.declared.token.Mark.{Mark}
use Rattle.pb_lexer.specs.declared.token.Mark.TheVariants as mark
use Rattle.pb_lexer.specs.Cutting.{Piece, blank, comment, token, IsToken, Cut, nothing, more, Fits, AllFit}
use Rattle.pb_lexer.specs.Cutting.{AreTokensOf}
use Rattle.pb_lexer.specs.Forms.{spelling, IsWord, Form, name, number, fixed}
use Rattle.pb_lexer.specs.Tokens.{Lexeme, Name, Token}
use Rattle.pb_verifier.specs.Limits.{IsName, reserved_words}
use Rattle.pb_codegen.specs.Form.{IsSourceLine}

-- a property of each token
abbrev pub EachToken : (Token → Type 0) → List Token → Type 0
EachToken P [] = Unit {0}
EachToken P (t ∷ ts) = P t × EachToken P ts

each_token-append : (P : Token → Type 0) (a b : List Token) → EachToken P a → EachToken P b → EachToken P (a ++ b)
each_token-append P [] b h g = g
each_token-append P (t ∷ a) b h g = (h.0, each_token-append P a b h.1 g)

-- the token begins on a line of a text, and what it says, if it says a name, is a name
abbrev pub IsProper : Token → Type 0
IsProper t = IsSourceLine t.line × ((x : List ℕ) → t.lexeme ≡ Name x → IsName x)

-- ---- reserved words

-- the marks that are words, in the order of these
abbrev words : List Mark
words =
    mark.And ∷ mark.Begin ∷ mark.Div ∷ mark.Do ∷ mark.Else ∷ mark.End ∷ mark.Fi ∷ mark.Hold ∷ mark.If ∷ mark.Integer
    ∷ mark.Mod ∷ mark.Not ∷ mark.Od ∷ mark.Of ∷ mark.Or ∷ mark.Parbegin ∷ mark.Parend ∷ mark.Print ∷ mark.Process
    ∷ mark.Resource ∷ mark.Skip ∷ mark.Then ∷ mark.While ∷ []

reserved_are_words : reserved_words ≡ map spelling words
reserved_are_words = refl

spelled_at : (marks : List Mark) (k : ℕ) (x : List ℕ) → k < length (map spelling marks)
    → get_or (map spelling marks) k x ≡ x → (m : Mark) × (x ≡ spelling m)
spelled_at [] k x u e = absurd (omega (arith, u))
spelled_at (m ∷ marks) zero x u e = (m, sym e)
spelled_at (m ∷ marks) (suc k) x u e = spelled_at marks k x (omega (arith, u)) e

not_reserved : (x : List ℕ) → ((m : Mark) → x ≡ spelling m → ⊥) → Contains reserved_words x → ⊥
not_reserved x other c =
    let d = subst (λ ws. Contains ws x) reserved_are_words c in
    let w = spelled_at words d.0 x d.1 d.2 in
    other w.0 w.1

-- ---- one token

word_not_empty : (x : List ℕ) → IsWord x → 1 ≤ length x
word_not_empty [] h = let wrong : false ≡ true = h.letter in cc
word_not_empty (b ∷ x) h = omega arith

is_name : (x : List ℕ) → IsWord x → ((m : Mark) → x ≡ spelling m → ⊥) → length x ≤ 32 → IsName x
is_name x word other short = record {
  size = (word_not_empty x word, short);
  begins = word.letter;
  bytes = word.each;
  free = not_reserved x other;
}

form_says_name : (bytes : List ℕ) (l : Lexeme) (x : List ℕ) → Form bytes l → Fits l → l ≡ Name x → IsName x
form_says_name bytes _ x (name word other) fits e =
    let same : bytes ≡ x = cc in subst IsName same (is_name bytes word other fits)
form_says_name bytes _ x (number some digits) fits e = cc
form_says_name bytes _ x (fixed is) fits e = cc

-- ---- all tokens

-- the lines before a token are as many as the line feeds before it, and a text has few bytes
line_of_token : {text : List ℕ} {at end : ℕ} {t : Token} → length text ≤ 65536 → IsToken text at end t
    → IsSourceLine t.line
line_of_token {text = text} {at = at} {end = end} short is =
    let line = is.line_is in
    let before = is.before_end in
    let within = is.within in
    let few = count_by-le-length (λ (b : ℕ). b == 10) (take at text) in
    let all = length-take-le at text (omega (arith, before, within)) in
    (omega (arith, line), omega (arith, line, few, all, before, within, short))

-- a token that was cut is on a line of the text, and has the form of a token
abbrev WasCut : Token → Type 0
WasCut t = IsSourceLine t.line × ((bytes : List ℕ) × Form bytes t.lexeme)

cut_piece : {text : List ℕ} {at end : ℕ} {new : List Token} → length text ≤ 65536 → Piece text at end new
    → EachToken WasCut new
cut_piece short (blank u is_blank one) = tt
cut_piece short (comment is) = tt
cut_piece {text = text} {at = at} {end = end} short (token is) =
    ((line_of_token short is, (slice_range text at end, is.form)), tt)

cut_tokens : {text : List ℕ} {end : ℕ} {ts : List Token} → length text ≤ 65536 → Cut text end ts
    → EachToken WasCut ts
cut_tokens short nothing = tt
cut_tokens short (more {ts = ts} {new = new} cut piece) =
    each_token-append WasCut ts new (cut_tokens short cut) (cut_piece short piece)

all_proper : (ts : List Token) → EachToken WasCut ts → AllFit ts → EachToken IsProper ts
all_proper [] h fit = tt
all_proper (t ∷ ts) h fit =
    ((h.0.0, λ x e. form_says_name h.0.1.0 t.lexeme x h.0.1.1 fit.0 e), all_proper ts h.1 fit.1)

pub proper_tokens : (text : List ℕ) (ts : List Token) → AreTokensOf text ts → EachToken IsProper ts
proper_tokens text ts h = all_proper ts (cut_tokens h.short h.cuts) h.fit
