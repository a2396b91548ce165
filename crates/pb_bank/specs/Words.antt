-- The words of a command.
use Rattle.std.specs.Prelude.{ℕ, Bool, true, false, cond, ◌&&◌, ◌||◌, nat_lt, ◌==◌, List, [], ◌∷◌, ◌++◌, length}
use Rattle.std.specs.Prelude.{Option, Some, None, codes, map, slice_index_or}
use Rattle.std.specs.Char.{is_ascii_alphabetic, is_ascii_digit}
use Rattle.std.specs.List.{list_all}
use Rattle.std.specs.Str.{bytes_eq}
use Rattle.std.specs.Str.Parse.{digits_value}
use Rattle.pb_code.specs.Numerals.{is_numeral}
use Rattle.pb_bank.specs.declared.kind.Kind.{Kind}
use Rattle.pb_bank.specs.declared.kind.Kind.TheVariants.{Skip, Resource, Capital, Claim, Job, Ask, Want, Drop, Give, Leave}
use Rattle.pb_bank.specs.declared.kind.Kind.TheVariants.{Hold, Why, Order, State, Help, Other}

-- a space, a tab or a carriage return
abbrev pub is_blank : ℕ → Bool
is_blank b = b == 32 || b == 9 || b == 13

-- blanks and commas end a word
abbrev pub ends_word : ℕ → Bool
ends_word b = is_blank b || b == 44

-- a word and those after it; an empty one is none
abbrev pub before : List ℕ → List (List ℕ) → List (List ℕ)
before [] words = words
before (b ∷ bytes) words = (b ∷ bytes) ∷ words

-- a text without the blanks that it begins with
abbrev pub trimmed : List ℕ → List ℕ
trimmed [] = []
trimmed (b ∷ bytes) = cond (is_blank b) (trimmed bytes) (b ∷ bytes)

-- the words of bytes that come after the first part of a word: blanks part them, and a comma is a word
abbrev pub cut_words : (word : List ℕ) → List ℕ → List (List ℕ)
cut_words word [] = before word []
cut_words word (b ∷ bytes) =
    cond (is_blank b) (before word (cut_words [] bytes)) (
    cond (b == 44) (before word ((44 ∷ []) ∷ cut_words [] bytes)) (cut_words (word ++ b ∷ []) bytes))

-- the words of a text
unfoldable pub words_of : List ℕ → List (List ℕ)
words_of text = cut_words [] text

-- there are at least two words
abbrev pub has_two : List (List ℕ) → Bool
has_two [] = false
has_two (first ∷ []) = false
has_two (first ∷ second ∷ rest) = true

-- one to seven digits, with no zero before others, and at most 1,000,000
abbrev pub amount_of : List ℕ → Option ℕ
amount_of word =
    cond (is_numeral word && nat_lt (length word) 8)
    (cond (nat_lt 1000000 (digits_value 10 word)) None (Some (digits_value 10 word))) None

-- a letter, a digit, `_`, `-` or `.`
abbrev pub is_name_byte : ℕ → Bool
is_name_byte b = is_ascii_alphabetic b || is_ascii_digit b || b == 95 || b == 45 || b == 46

-- a word of at most 32 such bytes
abbrev pub is_name : List ℕ → Bool
is_name word = nat_lt (length word) 33 && list_all is_name_byte word

-- a byte of a word as it is shown: one that is no sign of ASCII is a question mark
abbrev pub shown_byte : ℕ → ℕ
shown_byte b = cond (nat_lt 32 b && nat_lt b 127) b 63

-- the word with a number, as it is shown
abbrev pub shown_word : List (List ℕ) → ℕ → List ℕ
shown_word words k = map shown_byte (slice_index_or words k [])

-- a word that is a comma
abbrev pub is_comma : List ℕ → Bool
is_comma word = bytes_eq word (codes ",")

-- there is no word, or one that begins with `#`
abbrev pub is_skipped : List ℕ → Bool
is_skipped word = length word == 0 || slice_index_or word 0 0 == 35

-- which command begins with this word; of no word, or one that begins with `#`, none does
unfoldable pub kind_of : List ℕ → Kind
kind_of word =
    cond (is_skipped word) Skip (
    cond (bytes_eq word (codes "ask")) Ask (
    cond (bytes_eq word (codes "give")) Give (
    cond (bytes_eq word (codes "want")) Want (
    cond (bytes_eq word (codes "drop")) Drop (
    cond (bytes_eq word (codes "why")) Why (
    cond (bytes_eq word (codes "hold")) Hold (
    cond (bytes_eq word (codes "leave")) Leave (
    cond (bytes_eq word (codes "job")) Job (
    cond (bytes_eq word (codes "resource")) Resource (
    cond (bytes_eq word (codes "capital")) Capital (
    cond (bytes_eq word (codes "claim")) Claim (
    cond (bytes_eq word (codes "order")) Order (
    cond (bytes_eq word (codes "state")) State (
    cond (bytes_eq word (codes "help")) Help Other))))))))))))))

-- the same; a command that is too long is none, and a comment may have any length
abbrev pub kind_within : (too_long : Bool) → List ℕ → Kind
kind_within too_long word = cond too_long (cond (is_skipped word) Skip Other) (kind_of word)
