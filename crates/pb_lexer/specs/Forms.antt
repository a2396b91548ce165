-- The bytes of a text, and the forms of tokens, without bound of length or value.
use Rattle.std.specs.Prelude.{◌≡◌, ◌<◌, ℕ, ◌+◌, ◌*◌, ◌-◌, Bool, true, ◌||◌, ◌==◌, pos}
use Rattle.std.specs.Prelude.{List, [], ◌∷◌, length, slice_index, EachIndex, codes}
use Rattle.std.specs.Char.{is_ascii_alphabetic, is_ascii_digit}
use Rattle.std.specs.Int.{is_in_range}
use Rattle.pb_lexer.specs.declared.token.Mark.{Mark}
use Rattle.pb_lexer.specs.declared.token.Mark.TheVariants as mark
use Rattle.pb_lexer.specs.Tokens.{Lexeme, Name, Number, Fixed}

-- the bytes of a text: 32 to 126, tab, LF and CR
abbrev pub is_allowed : ℕ → Bool
is_allowed b = is_in_range 32 126 b || b == 9 || b == 10 || b == 13

-- space, tab, LF and CR
abbrev pub is_blank : ℕ → Bool
is_blank b = b == 32 || b == 9 || b == 10 || b == 13

-- a letter, a digit or `_`
abbrev pub is_word : ℕ → Bool
is_word b = is_ascii_alphabetic b || is_ascii_digit b || b == 95

-- how a symbol or reserved word is written
abbrev pub spelling : Mark → List ℕ
spelling mark.Assign = codes ":="
spelling mark.Semicolon = codes ";"
spelling mark.Comma = codes ","
spelling mark.Open = codes "("
spelling mark.Close = codes ")"
spelling mark.Plus = codes "+"
spelling mark.Minus = codes "-"
spelling mark.Star = codes "*"
spelling mark.Equal = codes "="
spelling mark.NotEqual = codes "<>"
spelling mark.Less = codes "<"
spelling mark.AtMost = codes "<="
spelling mark.Greater = codes ">"
spelling mark.AtLeast = codes ">="
spelling mark.And = codes "and"
spelling mark.Begin = codes "begin"
spelling mark.Div = codes "div"
spelling mark.Do = codes "do"
spelling mark.Else = codes "else"
spelling mark.End = codes "end"
spelling mark.Fi = codes "fi"
spelling mark.Hold = codes "hold"
spelling mark.If = codes "if"
spelling mark.Integer = codes "integer"
spelling mark.Mod = codes "mod"
spelling mark.Not = codes "not"
spelling mark.Od = codes "od"
spelling mark.Of = codes "of"
spelling mark.Or = codes "or"
spelling mark.Parbegin = codes "parbegin"
spelling mark.Parend = codes "parend"
spelling mark.Print = codes "print"
spelling mark.Process = codes "process"
spelling mark.Resource = codes "resource"
spelling mark.Skip = codes "skip"
spelling mark.Then = codes "then"
spelling mark.While = codes "while"

-- the number that decimal digits say, if the digits before them say n
abbrev pub value_from : ℕ → List ℕ → ℕ
value_from n [] = n
value_from n (digit ∷ digits) = value_from (10 * n + (digit - 48)) digits

-- the number that decimal digits say
abbrev pub value : List ℕ → ℕ
value digits = value_from 0 digits

-- a letter, then letters, digits or `_`
pub record IsWord (bytes : List ℕ) : Type 0 where
  pub letter : is_ascii_alphabetic (slice_index bytes 0) ≡ true
  pub each : EachIndex bytes (λ k. is_word (slice_index bytes k) ≡ true)

-- The bytes have the form of this token: a word that is not reserved is a name; some digits are a number; a
-- symbol or reserved word is as the table says.
pub data Form (bytes : List ℕ) : Lexeme → Type 0 where
  name : IsWord bytes → ((m : Mark) → bytes ≡ spelling m → ⊥) → Form bytes (Name bytes)
  number : 0 < length bytes → EachIndex bytes (λ k. is_ascii_digit (slice_index bytes k) ≡ true)
      → Form bytes (Number (pos (value bytes)))
  fixed : {m : Mark} → bytes ≡ spelling m → Form bytes (Fixed m)
