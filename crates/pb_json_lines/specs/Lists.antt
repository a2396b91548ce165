-- The lists at the end of a line: amounts with their resources, or numbers, which spaces part; or amounts with the
-- resources of a bank, which commas part.
use Rattle.std.specs.Prelude.{ℕ, Bool, true, false, cond, not, ◌&&◌, ◌||◌, ◌==◌, List, [], ◌∷◌, ◌++◌, codes}
use Rattle.std.specs.Char.{is_ascii_alphabetic, is_ascii_digit}
use Rattle.std.specs.List.{fold}
use Rattle.pb_code.specs.Names.{is_name_byte}
use Rattle.pb_json_lines.specs.declared.list.Mode.{Mode}
use Rattle.pb_json_lines.specs.declared.list.Mode.TheVariants.{Begin, FirstDigit, Digits, Zero, FirstLetter, Letters, Comma, Wrong}
use Rattle.pb_json_lines.specs.declared.list.Shape.{Shape}
use Rattle.pb_json_lines.specs.declared.list.Shape.TheVariants.{Numbers, Pairs, Shares}

-- a byte of the name of a job or a resource of a bank
abbrev pub is_label_byte : ℕ → Bool
is_label_byte b = is_name_byte b || (b == 45 || b == 46)

-- at a byte that may be the first digit of a number; an amount of a bank may be 0
abbrev pub at_number : Shape → ℕ → Mode
at_number Shares b = cond (b == 48) Zero (cond (is_ascii_digit b) Digits Wrong)
at_number Pairs b = cond (is_ascii_digit b && not (b == 48)) Digits Wrong
at_number Numbers b = cond (is_ascii_digit b && not (b == 48)) Digits Wrong

-- at a byte after a number: a space, and then a name if the list is of pairs
abbrev pub behind_number : Shape → ℕ → Mode
behind_number Numbers b = cond (b == 32) FirstDigit Wrong
behind_number Pairs b = cond (b == 32) FirstLetter Wrong
behind_number Shares b = cond (b == 32) FirstLetter Wrong

-- at a byte that may be the first of a name
abbrev pub at_name : Shape → ℕ → Mode
at_name Shares b = cond (is_label_byte b) Letters Wrong
at_name Pairs b = cond (is_ascii_alphabetic b) Letters Wrong
at_name Numbers b = cond (is_ascii_alphabetic b) Letters Wrong

-- at a byte after one of a name
abbrev pub behind_name : Shape → ℕ → Mode
behind_name Shares b = cond (is_label_byte b) Letters (cond (b == 44) Comma Wrong)
behind_name Pairs b = cond (is_name_byte b) Letters (cond (b == 32) FirstDigit Wrong)
behind_name Numbers b = cond (is_name_byte b) Letters (cond (b == 32) FirstDigit Wrong)

-- where a reader of such a list is after one byte more
abbrev pub next : Shape → Mode → ℕ → Mode
next shape Begin b = cond (b == 32) FirstDigit Wrong
next shape FirstDigit b = at_number shape b
next shape Digits b = cond (is_ascii_digit b) Digits (behind_number shape b)
next shape Zero b = behind_number shape b
next shape FirstLetter b = at_name shape b
next shape Letters b = behind_name shape b
next shape Comma b = cond (b == 32) FirstDigit Wrong
next shape Wrong b = Wrong

-- the list is of numbers alone
abbrev pub are_numbers : Shape → Bool
are_numbers Numbers = true
are_numbers Pairs = false
are_numbers Shares = false

-- a list ends after a name if it is of pairs, and else after a number
abbrev pub may_end : Shape → Mode → Bool
may_end shape Digits = are_numbers shape
may_end shape Letters = not (are_numbers shape)
may_end shape Zero = false
may_end shape Begin = false
may_end shape FirstDigit = false
may_end shape FirstLetter = false
may_end shape Comma = false
may_end shape Wrong = false

-- such a list: a space before each number and each name
abbrev pub is_list : Shape → List ℕ → Bool
is_list shape word = may_end shape (fold (next shape) Begin word)

-- what stands for a space before a pair, after its number, and before the next pair
abbrev pub parting_pairs : Mode → List ℕ
parting_pairs Begin = codes "{\"amount\":"
parting_pairs Digits = codes ",\"resource\":\""
parting_pairs Zero = codes ",\"resource\":\""
parting_pairs Letters = codes "\"},{\"amount\":"
parting_pairs Comma = codes "\"},{\"amount\":"
parting_pairs FirstDigit = []
parting_pairs FirstLetter = []
parting_pairs Wrong = []

-- what stands for a space: it parts what is before it from what is behind it
abbrev pub parting : Shape → Mode → List ℕ
parting Pairs mode = parting_pairs mode
parting Shares mode = parting_pairs mode
parting Numbers Digits = codes ","
parting Numbers Zero = []
parting Numbers Begin = []
parting Numbers Letters = []
parting Numbers FirstDigit = []
parting Numbers FirstLetter = []
parting Numbers Comma = []
parting Numbers Wrong = []

-- what is written of a byte: all but spaces and commas as they are
abbrev pub said : Shape → Mode → ℕ → List ℕ
said shape mode b = cond (b == 32) (parting shape mode) (cond (b == 44) [] (b ∷ []))

-- what is written of bytes, one after another
abbrev pub inside : Shape → Mode → List ℕ → List ℕ
inside shape mode [] = []
inside shape mode (b ∷ bytes) = said shape mode b ++ inside shape (next shape mode b) bytes

-- the end of the last pair
abbrev pub closing : Shape → List ℕ
closing Pairs = codes "\"}"
closing Shares = codes "\"}"
closing Numbers = []

-- `[{"amount":1,"resource":"tape"},..]` of pairs, `[3,5]` of numbers
abbrev pub list_text : Shape → List ℕ → List ℕ
list_text shape word = codes "[" ++ inside shape Begin word ++ closing shape ++ codes "]"
