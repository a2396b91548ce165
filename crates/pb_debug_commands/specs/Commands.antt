-- What a line of a session says.
use Rattle.std.specs.Prelude.{ℕ, ◌+◌, Bool, false, cond, ◌&&◌, nat_lt, ◌==◌, List, [], ◌∷◌, length, take, drop, codes}
use Rattle.std.specs.Prelude.{Option, Some, None, option_map}
use Rattle.std.specs.Char.{is_ascii_alphabetic, is_ascii_whitespace}
use Rattle.std.specs.List.{list_all, position}
use Rattle.std.specs.Str.{bytes_eq}
use Rattle.std.specs.Str.Parse.{digits_value}
use Rattle.pb_code.specs.Names.{is_name_byte}
use Rattle.pb_code.specs.Numerals.{is_numeral}

-- a command, with what it is about
pub data Command : Type 0 where
  To Step Back Mark : (n : ℕ) → Command
  Vars Threads Fault : (process : List ℕ) → Command
  Wrote : (process integer : List ℕ) → Command
  Until : (process : List ℕ) (arm line : ℕ) → Command
  Loans Circle Arms Next Prev Help : Command
  Who : (resource : List ℕ) → Command
  Line Text Why Stack Pick Does : (process : List ℕ) (arm : ℕ) → Command

-- one to eight digits, with no zero before others
abbrev pub number_of : List ℕ → Option ℕ
number_of word = cond (is_numeral word && nat_lt (length word) 9) (Some (digits_value 10 word)) None

-- a number of at most ten digits, up to 4294967295, with no zero before others
abbrev pub mark_of : List ℕ → Option ℕ
mark_of word =
    cond (is_numeral word && nat_lt (length word) 11 && nat_lt (digits_value 10 word) 4294967296) (Some (digits_value 10 word))
    None

-- a letter, then letters, digits or `_`: what a name looks like
abbrev pub looks_like_name : List ℕ → Bool
looks_like_name [] = false
looks_like_name (b ∷ bs) = is_ascii_alphabetic b && list_all is_name_byte bs

-- a word that looks like a name
abbrev pub word_of : List ℕ → Option (List ℕ)
word_of word = cond (looks_like_name word) (Some word) None

-- `P.a`: a process, and the number of an arm
abbrev pub arm_at : List ℕ → Option ℕ → Option (List ℕ × ℕ)
arm_at word None = None
arm_at word (Some dot) =
    cond (looks_like_name (take dot word)) (option_map (λ arm. (take dot word, arm)) (number_of (drop (dot + 1) word))) None

-- a word of this form
abbrev pub arm_of : List ℕ → Option (List ℕ × ℕ)
arm_of word = arm_at word (position (λ b. b == 46) word)

-- `P X`: a process, and one of its integers
abbrev pub both_of : Option (List ℕ) → Option (List ℕ) → Option (List ℕ × List ℕ)
both_of None second = None
both_of (Some first) None = None
both_of (Some first) (Some second) = Some (first, second)

-- such an integer, by where the space is
abbrev pub integer_at : List ℕ → Option ℕ → Option (List ℕ × List ℕ)
integer_at word None = None
integer_at word (Some space) = both_of (word_of (take space word)) (word_of (drop (space + 1) word))

-- a word of this form
abbrev pub integer_of : List ℕ → Option (List ℕ × List ℕ)
integer_of word = integer_at word (position (λ b. b == 32) word)

-- `P.a N`: an arm, and a line
abbrev pub stop_from : Option (List ℕ × ℕ) → Option ℕ → Option Command
stop_from None n = None
stop_from (Some arm) None = None
stop_from (Some arm) (Some n) = Some (Until arm.0 arm.1 n)

-- such a stop, by where the space is
abbrev pub stop_at : List ℕ → Option ℕ → Option Command
stop_at word None = None
stop_at word (Some space) = stop_from (arm_of (take space word)) (number_of (drop (space + 1) word))

-- a word of this form
abbrev pub stop_of : List ℕ → Option Command
stop_of word = stop_at word (position (λ b. b == 32) word)

-- a keyword and what it is about
unfoldable pub keyed : List ℕ → List ℕ → Option Command
keyed key word =
    cond (bytes_eq key (codes "to")) (option_map To (number_of word)) (
    cond (bytes_eq key (codes "step")) (option_map Step (number_of word)) (
    cond (bytes_eq key (codes "back")) (option_map Back (number_of word)) (
    cond (bytes_eq key (codes "mark")) (option_map Mark (mark_of word)) (
    cond (bytes_eq key (codes "vars")) (option_map Vars (word_of word)) (
    cond (bytes_eq key (codes "threads")) (option_map Threads (word_of word)) (
    cond (bytes_eq key (codes "fault")) (option_map Fault (word_of word)) (
    cond (bytes_eq key (codes "until")) (stop_of word) (
    cond (bytes_eq key (codes "wrote")) (option_map (λ p. Wrote p.0 p.1) (integer_of word)) (
    cond (bytes_eq key (codes "line")) (option_map (λ p. Line p.0 p.1) (arm_of word)) (
    cond (bytes_eq key (codes "text")) (option_map (λ p. Text p.0 p.1) (arm_of word)) (
    cond (bytes_eq key (codes "why")) (option_map (λ p. Why p.0 p.1) (arm_of word)) (
    cond (bytes_eq key (codes "who")) (option_map Who (word_of word)) (
    cond (bytes_eq key (codes "stack")) (option_map (λ p. Stack p.0 p.1) (arm_of word)) (
    cond (bytes_eq key (codes "pick")) (option_map (λ p. Pick p.0 p.1) (arm_of word)) (
    cond (bytes_eq key (codes "does")) (option_map (λ p. Does p.0 p.1) (arm_of word)) None)))))))))))))))

-- the command of a line, by where its first space is
abbrev pub parted : List ℕ → Option ℕ → Option Command
parted line None = None
parted line (Some space) = keyed (take space line) (drop (space + 1) line)

-- a byte before others, without it if it is white space and nothing follows
abbrev pub before : ℕ → List ℕ → List ℕ
before b [] = cond (is_ascii_whitespace b) [] (b ∷ [])
before b (next ∷ rest) = b ∷ next ∷ rest

-- a line without the white space at its end
abbrev pub trimmed : List ℕ → List ℕ
trimmed [] = []
trimmed (b ∷ bs) = before b (trimmed bs)

-- the command of a line that does not end in white space; `step` and `back` alone are one step
unfoldable pub said_by : List ℕ → Option Command
said_by line =
    cond (bytes_eq line (codes "loans")) (Some Loans) (
    cond (bytes_eq line (codes "next")) (Some Next) (
    cond (bytes_eq line (codes "prev")) (Some Prev) (
    cond (bytes_eq line (codes "help")) (Some Help) (
    cond (bytes_eq line (codes "circle")) (Some Circle) (
    cond (bytes_eq line (codes "arms")) (Some Arms) (
    cond (bytes_eq line (codes "step")) (Some (Step 1)) (
    cond (bytes_eq line (codes "back")) (Some (Back 1)) (parted line (position (λ b. b == 32) line)))))))))

-- the command of a line without its line feed, of at most 256 bytes
unfoldable pub command_of : List ℕ → Option Command
command_of line = cond (nat_lt 256 (length line)) None (said_by (trimmed line))
