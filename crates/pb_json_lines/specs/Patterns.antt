-- The patterns of lines. Each byte of a pattern takes some bytes of a line: capital letters, digits and `@` take a name, a
-- number or a list, and make a member of an object of it; any other byte takes itself, and makes nothing.
use Rattle.std.specs.Prelude.{ℕ, Bool, true, false, cond, not, ◌&&◌, ◌||◌, ◌==◌, nat_lt, List, [], ◌∷◌, ◌++◌, length}
use Rattle.std.specs.Prelude.{take, drop, codes, Option, Some, None}
use Rattle.std.specs.Char.{is_ascii_alphabetic, is_ascii_digit, is_ascii_uppercase}
use Rattle.std.specs.List.{list_any, position}
use Rattle.std.specs.Str.{bytes_eq}
use Rattle.std.specs.Str.Parse.{digits_value}
use Rattle.pb_code.specs.Names.{is_name_byte}
use Rattle.pb_code.specs.Numerals.{is_numeral}
use Rattle.pb_json.specs.Strings.{string_text}
use Rattle.pb_json_lines.specs.Lists.{is_label_byte, is_list, list_text}
use Rattle.pb_json_lines.specs.declared.list.Shape.TheVariants as shape
use Rattle.pb_json_lines.specs.declared.marker.Marker.{Marker}
use Rattle.pb_json_lines.specs.declared.marker.Marker.TheVariants.{Itself, Name, Number, Pairs, Shares, Numbers, Rest, Plural}
use Rattle.pb_json_lines.specs.declared.marker.Marker.TheVariants.{Label, Code}

-- what a byte of a pattern stands for
abbrev pub marker_of : ℕ → Marker
marker_of p =
    cond (list_any (λ b. b == p) (codes "PRXCFTU2")) Name (
    cond (list_any (λ b. b == p) (codes "AVKMGLENODSIQJY015679")) Number (
    cond (p == 66) Pairs (
    cond (p == 64) Shares (
    cond (p == 72) Numbers (
    cond (p == 87) Rest (
    cond (p == 90) Plural (
    cond (p == 51 || p == 52) Label (
    cond (p == 56) Code Itself))))))))

-- the key of the member that it makes
abbrev pub key_of : ℕ → List ℕ
key_of p =
    cond (p == 80) (codes "process") (
    cond (p == 65) (codes "arm") (
    cond (p == 86) (codes "value") (
    cond (p == 82) (codes "resource") (
    cond (p == 66 || p == 64) (codes "amounts") (
    cond (p == 88) (codes "integer") (
    cond (p == 81) (codes "count") (
    cond (p == 77) (codes "amount") (
    cond (p == 75) (codes "claim") (
    cond (p == 72) (codes "lines") (
    cond (p == 71) (codes "capital") (
    cond (p == 76) (codes "least") (
    cond (p == 69) (codes "free") (
    cond (p == 67) (codes "code") (
    cond (p == 70) (codes "fault") (
    cond (p == 73) (codes "at") (
    cond (p == 78) (codes "number") (
    cond (p == 79) (codes "outcomes") (
    cond (p == 68) (codes "deadlocks") (
    cond (p == 83) (codes "limit") (
    cond (p == 84) (codes "outer") (
    cond (p == 74) (codes "outer_line") (
    cond (p == 85) (codes "inner") (
    cond (p == 89) (codes "inner_line") (
    cond (p == 48) (codes "place") (
    cond (p == 49) (codes "line") (
    cond (p == 50) (codes "holder") (
    cond (p == 51) (codes "job") (
    cond (p == 52) (codes "resource") (
    cond (p == 53) (codes "cash") (
    cond (p == 54) (codes "needs") (
    cond (p == 55) (codes "holds") (
    cond (p == 56) (codes "code") (
    cond (p == 57) (codes "of_text") (codes "text"))))))))))))))))))))))))))))))))))

-- a digit or a minus sign
abbrev pub is_number_byte : ℕ → Bool
is_number_byte b = is_ascii_digit b || b == 45

-- up to the place of the first other byte, or to the end
abbrev pub up_to : Option ℕ → List ℕ → ℕ
up_to None line = length line
up_to (Some n) line = n

-- one byte, if there is one
abbrev pub one : List ℕ → ℕ
one [] = 0
one (b ∷ bytes) = 1

-- one byte, if it is an `s`
abbrev pub plural : List ℕ → ℕ
plural [] = 0
plural (b ∷ bytes) = cond (b == 115) 1 0

-- how many bytes of a line it takes: of names and numbers as many as there are
abbrev pub taken_by : Marker → List ℕ → ℕ
taken_by Itself line = one line
taken_by Name line = up_to (position (λ b. not (is_name_byte b)) line) line
taken_by Number line = up_to (position (λ b. not (is_number_byte b)) line) line
taken_by Plural line = plural line
taken_by Label line = up_to (position (λ b. not (is_label_byte b)) line) line
taken_by Code line = up_to (position (λ b. not (is_name_byte b)) line) line
taken_by Pairs line = length line
taken_by Shares line = length line
taken_by Numbers line = length line
taken_by Rest line = length line

-- how many bytes at the front of a line a byte of a pattern takes
abbrev pub taken : ℕ → List ℕ → ℕ
taken p line = taken_by (marker_of p) line

-- a word of name bytes that begins with a letter
abbrev pub begins_with_letter : List ℕ → Bool
begins_with_letter [] = false
begins_with_letter (b ∷ bytes) = is_ascii_alphabetic b

-- a number in decimal, after a minus sign or not
abbrev pub is_integer : List ℕ → Bool
is_integer [] = false
is_integer (b ∷ bytes) = cond (b == 45) (is_numeral bytes) (is_numeral (b ∷ bytes))

-- a capital letter and a number; or `input` or `output`
abbrev pub is_code : List ℕ → Bool
is_code [] = false
is_code (b ∷ bytes) =
    (is_ascii_uppercase b && is_numeral bytes) || (bytes_eq (b ∷ bytes) (codes "input") || bytes_eq (b ∷ bytes) (codes "output"))

-- whether the bytes that it took are of its form
abbrev pub meets_by : Marker → ℕ → List ℕ → Bool
meets_by Itself p word = bytes_eq word (p ∷ [])
meets_by Name p word = begins_with_letter word
meets_by Number p word = is_integer word
meets_by Plural p word = true
meets_by Pairs p word = is_list shape.Pairs word
meets_by Shares p word = is_list shape.Shares word
meets_by Numbers p word = is_list shape.Numbers word
meets_by Rest p word = true
meets_by Label p word = not (length word == 0)
meets_by Code p word = is_code word

-- whether the bytes that it takes are of its form
abbrev pub meets : ℕ → List ℕ → Bool
meets p word = meets_by (marker_of p) p word

-- the digits of a number
abbrev pub digits_of : List ℕ → List ℕ
digits_of [] = []
digits_of (b ∷ bytes) = cond (b == 45) bytes (b ∷ bytes)

-- a reader that keeps numbers as floats of 64 bits keeps the number of these digits, at most 2^53 - 1
abbrev pub is_exact : List ℕ → Bool
is_exact digits =
    cond (is_numeral digits && nat_lt (length digits) 17) (nat_lt (digits_value 10 digits) 9007199254740992) false

-- a number as it stands, or a string of it if a reader might round it
abbrev pub number_text : List ℕ → List ℕ
number_text word = cond (is_exact (digits_of word)) word (codes "\"" ++ word ++ codes "\"")

-- a member, whose value is this
abbrev pub member_text : ℕ → List ℕ → List ℕ
member_text p value = codes ",\"" ++ key_of p ++ codes "\":" ++ value

-- what is written of the bytes that it took
abbrev pub member_by : Marker → ℕ → List ℕ → List ℕ
member_by Itself p word = []
member_by Name p word = member_text p (string_text word)
member_by Number p word = member_text p (number_text word)
member_by Plural p word = []
member_by Pairs p word = member_text p (list_text shape.Pairs word)
member_by Shares p word = member_text p (list_text shape.Shares word)
member_by Numbers p word = member_text p (list_text shape.Numbers word)
member_by Rest p word = member_text p (string_text word)
member_by Label p word = member_text p (string_text word)
member_by Code p word = member_text p (string_text word)

-- the member that it makes of the bytes that it takes
abbrev pub member : ℕ → List ℕ → List ℕ
member p word = member_by (marker_of p) p word

-- the bytes that it takes of a line, and those after them
abbrev pub word_of : ℕ → List ℕ → List ℕ
word_of p line = take (taken p line) line

abbrev pub behind : ℕ → List ℕ → List ℕ
behind p line = drop (taken p line) line

-- a line is of a pattern: one byte after another takes what is of its form, and nothing is left
abbrev pub fits : (pattern line : List ℕ) → Bool
fits [] line = length line == 0
fits (p ∷ pattern) line = meets p (word_of p line) && fits pattern (behind p line)

-- the members that a pattern makes of a line
abbrev pub members : (pattern line : List ℕ) → List ℕ
members [] line = []
members (p ∷ pattern) line = member p (word_of p line) ++ members pattern (behind p line)
