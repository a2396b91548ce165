-- A text in JSON lines: an object for each line, and one for each outcome and deadlock with the lines that belong to it.
use Rattle.std.specs.Prelude.{ℕ, Bool, true, false, cond, ◌||◌, ◌==◌, ◌+◌, List, [], ◌∷◌, ◌++◌, take, codes}
use Rattle.std.specs.List.{prefix_len}
use Rattle.pb_base.specs.Lines.{line}
use Rattle.pb_json.specs.Values.{comma}
use Rattle.pb_json_lines.specs.Forms.{form_of, said_by, section_of}
use Rattle.pb_json_lines.specs.declared.form.Dialect.{Dialect}
use Rattle.pb_json_lines.specs.declared.form.Dialect.TheVariants.{Program}
use Rattle.pb_json_lines.specs.declared.form.Section.{Section}
use Rattle.pb_json_lines.specs.declared.form.Section.TheVariants.{Alone, Opens, Heading, Processes, Integers, Prints}
use Rattle.pb_json_lines.specs.declared.form.Section.TheVariants.{Holds, Asks, Picks}

-- a byte at the front of the first line
abbrev pub onto : ℕ → List (List ℕ) → List (List ℕ)
onto b [] = (b ∷ []) ∷ []
onto b (first ∷ lines) = (b ∷ first) ∷ lines

-- the lines of a text, without their line feeds; that of the last may be missing
abbrev pub lines_of : List ℕ → List (List ℕ)
lines_of [] = []
lines_of (b ∷ bytes) = cond (b == 10) ([] ∷ lines_of bytes) (onto b (lines_of bytes))

-- the object of a line: `is_open` says that the line before it is that of an outcome or a deadlock, or belongs to one
unfoldable pub object_of : Dialect → (is_open : Bool) → List ℕ → List ℕ
object_of dialect is_open text = codes "{" ++ said_by (form_of dialect is_open text) text ++ codes "}"

-- the line is that of an outcome or a deadlock, with its number
abbrev pub is_opening : Section → Bool
is_opening Opens = true
is_opening Alone = false
is_opening Heading = false
is_opening Processes = false
is_opening Integers = false
is_opening Prints = false
is_opening Holds = false
is_opening Asks = false
is_opening Picks = false

-- the line belongs to the outcome or the deadlock before it
abbrev pub is_inner : Section → Bool
is_inner Opens = false
is_inner Alone = false
is_inner Heading = true
is_inner Processes = true
is_inner Integers = true
is_inner Prints = true
is_inner Holds = true
is_inner Asks = true
is_inner Picks = true

-- whether a line is that of an outcome or a deadlock
abbrev pub opens : Dialect → (is_open : Bool) → List ℕ → Bool
opens dialect is_open text = is_opening (section_of dialect is_open text)

-- whether a line belongs to the outcome or the deadlock before it
abbrev pub is_part : Dialect → (is_open : Bool) → List ℕ → Bool
is_part dialect is_open text = is_inner (section_of dialect is_open text)

-- the number of a section in the order in which an object has them
abbrev pub place_of : Section → ℕ
place_of Alone = 0
place_of Opens = 1
place_of Heading = 2
place_of Processes = 3
place_of Integers = 4
place_of Holds = 5
place_of Asks = 6
place_of Prints = 7
place_of Picks = 8

-- whether a part is of this section
abbrev pub is_of : Section → List ℕ → Bool
is_of section text = place_of (section_of Program true text) == place_of section

-- the objects of those parts that are of a section, after n others, with commas between them
abbrev pub items : Section → (n : ℕ) → List (List ℕ) → List ℕ
items section n [] = []
items section n (text ∷ lines) =
    cond (is_of section text) (comma n ++ object_of Program true text) [] ++ items section (n + cond (is_of section text) 1 0) lines

-- a member with the objects of the lines that are of a section
abbrev pub list_of : List ℕ → Section → List (List ℕ) → List ℕ
list_of key section lines = codes ",\"" ++ key ++ codes "\":[" ++ items section 0 lines ++ codes "]"

-- the first lines, which belong to the outcome or the deadlock before them
abbrev pub parts_of : List (List ℕ) → List (List ℕ)
parts_of lines = take (prefix_len (is_part Program true) lines) lines

-- the object of an outcome or a deadlock: its line, and a list for each kind of the lines that belong to it
unfoldable pub lists_of : List (List ℕ) → List ℕ
lists_of lines =
    list_of (codes "processes") Processes lines ++ list_of (codes "integers") Integers lines
    ++ list_of (codes "holds") Holds lines ++ list_of (codes "asks") Asks lines
    ++ list_of (codes "prints") Prints lines ++ list_of (codes "picks") Picks lines

-- the object of an outcome or a deadlock, by its line and the lines after it
unfoldable pub block_of : Dialect → (is_open : Bool) → List ℕ → List (List ℕ) → List ℕ
block_of dialect is_open first lines = codes "{" ++ said_by (form_of dialect is_open first) first ++ lists_of (parts_of lines) ++ codes "}"

-- what is written for a line, by the lines after it: nothing, if it belongs to what is before it
abbrev pub said_of : Dialect → (is_open : Bool) → List ℕ → List (List ℕ) → List ℕ
said_of dialect is_open text lines =
    cond (opens dialect is_open text) (line (block_of dialect is_open text lines))
    (cond (is_part dialect is_open text) [] (line (object_of dialect is_open text)))

-- what is written for all of these lines
abbrev pub objects : Dialect → (is_open : Bool) → List (List ℕ) → List ℕ
objects dialect is_open [] = []
objects dialect is_open (text ∷ lines) =
    said_of dialect is_open text lines ++ objects dialect (opens dialect is_open text || is_part dialect is_open text) lines

-- the JSON lines of a text that a command wrote
unfoldable pub json_lines : Dialect → List ℕ → List ℕ
json_lines dialect text = objects dialect false (lines_of text)
