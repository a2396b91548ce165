-- The rule for names.
use Rattle.std.specs.Prelude.{ℕ, Bool, false, not, ◌&&◌, ◌||◌, nat_lt, ◌==◌, List, [], ◌∷◌, length, codes}
use Rattle.std.specs.Str.{bytes_eq}
use Rattle.std.specs.Char.{is_ascii_alphabetic, is_ascii_digit}
use Rattle.std.specs.List.{list_any, list_all}
use Rattle.pb_base.specs.declared.limits.TheConstants.{MAX_NAME}

-- the bytes of a word
abbrev pub Word : Type 0
Word = List ℕ

-- a byte is a letter, a digit or `_`
abbrev pub is_name_byte : ℕ → Bool
is_name_byte b = is_ascii_alphabetic b || is_ascii_digit b || b == 95

-- the words of the language that are not names, in alphabetical order. They are the words of the lexer:
-- reserved_are_words in crates/pb_codegen/proofs/TextTokens.antt proves that both lists are one
abbrev pub reserved_words : List Word
reserved_words =
    codes "and" ∷ codes "begin" ∷ codes "div" ∷ codes "do" ∷ codes "else" ∷ codes "end" ∷ codes "fi"
    ∷ codes "hold" ∷ codes "if" ∷ codes "integer" ∷ codes "mod" ∷ codes "not" ∷ codes "od" ∷ codes "of"
    ∷ codes "or" ∷ codes "parbegin" ∷ codes "parend" ∷ codes "print" ∷ codes "process" ∷ codes "resource"
    ∷ codes "skip" ∷ codes "then" ∷ codes "while" ∷ []

-- one of these words is this one
abbrev pub is_among : List Word → Word → Bool
is_among words word = list_any (λ w. bytes_eq word w) words

-- a letter, then letters, digits or `_`, up to 32 bytes, not a reserved word
unfoldable pub is_name : Word → Bool
is_name [] = false
is_name (b ∷ bs) =
    is_ascii_alphabetic b
    && (list_all is_name_byte bs && (nat_lt (length bs) MAX_NAME && not (is_among reserved_words (b ∷ bs))))
