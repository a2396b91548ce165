-- Entries of a journal, and the lines that spell them.
use Rattle.std.specs.Prelude.{ℕ, ◌==◌, ◌&&◌, Bool, true, false, cond, nat_lt, List, [], ◌∷◌, length, codes, Option, Some, None}
use Rattle.std.specs.Str.{bytes_eq}
use Rattle.std.specs.Str.Parse.{digits_value}
use Rattle.pb_code.specs.Numerals.{is_numeral}
use Rattle.pb_desk.specs.declared.entry.Entry.{Entry}
use Rattle.pb_desk.specs.declared.entry.Entry.TheVariants as given

-- an entry of the journal: a session begins, with a key and the seconds of its lease; it ends; a command of a session, with the
-- number of the request, which is 0 if the answer is not to be kept, and whether it is an operator's; a resource of the first start
pub data EntryValue : Type 0 where
  Begin : (id : ℕ) → (key : List ℕ) → (lease : ℕ) → EntryValue
  End : (id : ℕ) → EntryValue
  Command : (id number : ℕ) → (by_operator : Bool) → (line : List ℕ) → EntryValue
  Declare : (line : List ℕ) → EntryValue

-- an entry as it is held, seen as a plain one
abbrev pub entry_view : Entry → EntryValue
entry_view (given.Begin id key lease) = Begin id key.now lease
entry_view (given.End id) = End id
entry_view (given.Command id number by_operator line) = Command id number by_operator line.now
entry_view (given.Declare line) = Declare line.now

-- ---- lines

-- the bytes before the first space, and those after it
abbrev pub field_of : List ℕ → List ℕ
field_of [] = []
field_of (b ∷ bytes) = cond (b == 32) [] (b ∷ field_of bytes)

abbrev pub after_field : List ℕ → List ℕ
after_field [] = []
after_field (b ∷ bytes) = cond (b == 32) bytes (after_field bytes)

-- a number of one to eighteen digits, with no zero before others
abbrev pub number_of : List ℕ → Option ℕ
number_of word = cond (is_numeral word && nat_lt (length word) 19) (Some (digits_value 10 word)) None

-- `S KEY T`
abbrev pub begin_from : Option ℕ → (key : List ℕ) → Option ℕ → Option EntryValue
begin_from None key lease = None
begin_from (Some id) key None = None
begin_from (Some id) key (Some lease) = Some (Begin id key lease)

abbrev pub begin_of : List ℕ → Option EntryValue
begin_of text =
    begin_from (number_of (field_of text)) (field_of (after_field text)) (number_of (after_field (after_field text)))

-- `S`
abbrev pub end_from : Option ℕ → Option EntryValue
end_from None = None
end_from (Some id) = Some (End id)

-- `S N COMMAND`
abbrev pub command_from : (by_operator : Bool) → Option ℕ → Option ℕ → (line : List ℕ) → Option EntryValue
command_from by_operator None number line = None
command_from by_operator (Some id) None line = None
command_from by_operator (Some id) (Some number) line = Some (Command id number by_operator line)

abbrev pub command_entry : (by_operator : Bool) → List ℕ → Option EntryValue
command_entry by_operator text =
    command_from by_operator (number_of (field_of text)) (number_of (field_of (after_field text))) (after_field (after_field text))

-- the entry that a line spells, by its first field: `O S KEY T` begins a session, `E S` ends it, `C S N COMMAND` is a command of it,
-- `P S N COMMAND` one of an operator, and `A COMMAND` is of the first start
abbrev pub entry_in : List ℕ → Option EntryValue
entry_in line =
    cond (bytes_eq (field_of line) (codes "C")) (command_entry false (after_field line)) (
    cond (bytes_eq (field_of line) (codes "P")) (command_entry true (after_field line)) (
    cond (bytes_eq (field_of line) (codes "O")) (begin_of (after_field line)) (
    cond (bytes_eq (field_of line) (codes "E")) (end_from (number_of (after_field line))) (
    cond (bytes_eq (field_of line) (codes "A")) (Some (Declare (after_field line))) None))))
