-- Which tokens a text is cut into, and which fault it has. Both are conditions on whole cuttings, and nothing
-- here says how a text is read. Offsets count bytes of the text from 0.
use Rattle.std.specs.Prelude.{◌≡◌, ◌<◌, ◌≤◌, ◌<ℤ◌, ◌≤ℤ◌, ◌⊎◌, ℕ, ◌+◌, ℤ, pos, true, false, ◌==◌}
use Rattle.std.specs.Prelude.{List, [], ◌∷◌, ◌++◌, length, take, slice_index, slice_range, EachIndex}
use Rattle.std.specs.Prelude.{Result, Ok, Err}
use Rattle.std.specs.List.{count_by}
use Rattle.pb_base.specs.declared.limits.TheConstants.{MAX_NAME, MAX_NUMBER, MAX_TEXT}
use Rattle.pb_lexer.specs.declared.fault.LexFault.{LexFault}
use Rattle.pb_lexer.specs.declared.fault.LexFault.TheVariants as fault
use Rattle.pb_lexer.specs.Tokens.{Lexeme, Name, Number, Fixed, Token}
use Rattle.pb_lexer.specs.Forms.{is_allowed, is_blank, Form}

-- the line of an offset: one more than the line feeds before it
abbrev pub line_at : List ℕ → ℕ → ℕ
line_at text at = count_by (λ b. b == 10) (take at text) + 1

-- from one offset to another the text is the token, and no longer slice has the form of a token
pub record IsToken (text : List ℕ) (at end : ℕ) (t : Token) : Type 0 where
  pub before_end : at < end
  pub within : end ≤ length text
  pub form : Form (slice_range text at end) t.lexeme
  pub longest : (further : ℕ) (l : Lexeme) → end < further → further ≤ length text
      → Form (slice_range text at further) l → ⊥
  pub text_is : t.text ≡ slice_range text at end
  pub start_is : t.start ≡ at
  pub end_is : t.end ≡ end
  pub line_is : t.line ≡ line_at text at

-- `//`, and what follows up to the next line feed or the end, whatever bytes it has
pub record IsComment (text : List ℕ) (at end : ℕ) : Type 0 where
  pub long : at + 2 ≤ end
  pub within : end ≤ length text
  pub slash : slice_index text at ≡ 47
  pub another : slice_index text (at + 1) ≡ 47
  pub one_line : (k : ℕ) → at ≤ k → k < end → slice_index text k ≡ 10 → ⊥
  pub ends : (end ≡ length text) ⊎ (slice_index text end ≡ 10)

-- from one offset to another is a blank, a comment or a token, which gives these tokens
pub data Piece (text : List ℕ) (at end : ℕ) : List Token → Type 0 where
  blank : at < length text → is_blank (slice_index text at) ≡ true → end ≡ at + 1 → Piece text at end []
  comment : IsComment text at end → Piece text at end []
  token : {t : Token} → IsToken text at end t → Piece text at end (t ∷ [])

-- up to an offset the text is these tokens in order, with only blanks and comments round them
pub data Cut (text : List ℕ) : ℕ → List Token → Type 0 where
  nothing : Cut text 0 []
  more : {at end : ℕ} {ts new : List Token} → Cut text at ts → Piece text at end new
      → Cut text end (ts ++ new)

-- the whole text is cut into these tokens
abbrev pub Cuts : List ℕ → List Token → Type 0
Cuts text ts = Cut text (length text) ts

-- ---- limits

-- a name or number within its limit
abbrev pub Fits : Lexeme → Type 0
Fits (Name x) = length x ≤ MAX_NAME
Fits (Number n) = n ≤ℤ pos MAX_NUMBER
Fits (Fixed m) = Unit {0}

-- each token within its limit
abbrev pub AllFit : List Token → Type 0
AllFit [] = Unit {0}
AllFit (t ∷ ts) = Fits t.lexeme × AllFit ts

-- the text is within all limits and is cut into these tokens
pub record AreTokensOf (text : List ℕ) (ts : List Token) : Type 0 where
  pub short : length text ≤ MAX_TEXT
  pub allowed : EachIndex text (λ k. is_allowed (slice_index text k) ≡ true)
  pub cuts : Cuts text ts
  pub fit : AllFit ts

-- ---- faults

-- the cause of a fault is at this offset: a byte that is not allowed, in a comment too; or, if the text is
-- cut up to there, that nothing begins there, or a number too large, or a name too long
pub data Cause (text : List ℕ) (at : ℕ) : LexFault → Type 0 where
  no_byte_of_a_text : at < length text → is_allowed (slice_index text at) ≡ false
      → Cause text at (fault.BadByte at)
  nothing_begins : {ts : List Token} → Cut text at ts → at < length text
      → ((end : ℕ) (new : List Token) → Piece text at end new → ⊥)
      → Cause text at (fault.BadByte at)
  large_number : {ts : List Token} {end : ℕ} {t : Token} {n : ℤ} → Cut text at ts → IsToken text at end t
      → t.lexeme ≡ Number n → pos MAX_NUMBER <ℤ n
      → Cause text at (fault.NumberTooLarge at)
  long_name : {ts : List Token} {end : ℕ} {t : Token} {x : List ℕ} → Cut text at ts → IsToken text at end t
      → t.lexeme ≡ Name x → MAX_NAME < length x
      → Cause text at (fault.NameTooLong at)

-- the cause is at this offset, and none is earlier
pub record First (text : List ℕ) (at : ℕ) (e : LexFault) : Type 0 where
  pub short : length text ≤ MAX_TEXT
  pub cause : Cause text at e
  pub none_earlier : (place : ℕ) (other : LexFault) → place < at → Cause text place other → ⊥

-- the text has this fault; memory may run out with any text
abbrev pub Refuses : List ℕ → LexFault → Type 0
Refuses text fault.TooLong = MAX_TEXT < length text
Refuses text (fault.BadByte at) = First text at (fault.BadByte at)
Refuses text (fault.NumberTooLarge at) = First text at (fault.NumberTooLarge at)
Refuses text (fault.NameTooLong at) = First text at (fault.NameTooLong at)
Refuses text fault.NoMemory = Unit {0}

-- ---- results

-- the result is these tokens, unless out of memory
abbrev pub ReturnsTokens : {X : Type 0} → (X → List Token) → Result X LexFault → List Token → Type 0
ReturnsTokens view (Ok x) ts = view x ≡ ts
ReturnsTokens view (Err e) ts = e ≡ fault.NoMemory

-- the result is this fault, unless out of memory
abbrev pub ReturnsFault : {X : Type 0} → Result X LexFault → LexFault → Type 0
ReturnsFault (Ok x) e = ⊥
ReturnsFault (Err f) e = (f ≡ fault.NoMemory) ⊎ (f ≡ e)
