-- What is told of lines that are refused, and of a pick that cannot be made, beside the words of the fault.
use Rattle.std.specs.Prelude.{◌≡◌, ◌<◌, ⊤, ℕ, ◌+◌, ◌==◌, List, [], ◌∷◌, ◌++◌, Contains, IfSome, codes, drop, if◌then◌else◌, length, min, string_bytes}
use Rattle.std.specs.Fmt.{decimal}
use Rattle.pb_lexer.specs.Cutting.{line_at}
use Rattle.pb_message_stops.specs.Ends.{ends_hint, ends_of}
use Rattle.pb_message_stops.specs.declared.ends.Form.{Form}
use Rattle.pb_message_stops.specs.declared.ends.Form.TheVariants.{Picks}
use Rattle.pb_message_stops.specs.declared.stops.Stop.{Stop}
use Rattle.pb_mistakes.specs.Wordings.{notes_of}
use Rattle.pb_mistakes.specs.declared.wording.Spot.{Spot}
use Rattle.pb_mistakes.specs.declared.wording.Wording.{Wording}
use Rattle.pb_picks.specs.PickLines.{IsFirstLine}
use Rattle.pb_picks.specs.declared.fault.PickFault.{PickFault}
use Rattle.pb_picks.specs.declared.fault.PickFault.TheVariants.{NoMemory, NotPicks, TooMany}

-- that a line is this one of the input, if so many lines are before the first of them
abbrev pub line_note : (before line : ℕ) → List ℕ
line_note before line = codes "line " ++ decimal (line + before) ++ codes " of the input"

-- a note says which line of the input the line at this offset is
abbrev pub TellsLine : (before : ℕ) → (lines : List ℕ) → (at : ℕ) → Wording → Type 0
TellsLine before lines at wording = Contains (notes_of wording) (line_note before (line_at lines (min at (length lines))))

-- a note is the hint for what the line has wrong at its ends, if it has anything wrong there
abbrev pub HintsEnds : Form → (line : List ℕ) → Wording → Type 0
HintsEnds form line wording =
    IfSome (ends_of line) (λ ends. Contains (notes_of wording) (codes "hint: " ++ ends_hint form ends))

-- what is told of the line that begins at this offset: which one it is, and what it has wrong at its ends
pub record TellsBadLine (form : Form) (before : ℕ) (lines : List ℕ) (at : ℕ) (wording : Wording) : Type 0 where
  pub line : List ℕ
  pub after : List ℕ
  pub first : IsFirstLine (drop (min at (length lines)) lines) line after
  pub ends : HintsEnds form line wording
  pub there : TellsLine before lines at wording

-- what is told of pick lines that say too many picks: a line at which they are too many, and which line of the input it is
abbrev pub TellsMany : (before : ℕ) → (lines : List ℕ) → Wording → Type 0
TellsMany before lines wording =
    (spot : Spot) × (wording.spots.items ≡ spot ∷ []) × TellsLine before lines spot.at wording

-- what is told of a fault of pick lines
abbrev pub TellsFault : (before : ℕ) → (lines : List ℕ) → PickFault → Wording → Type 0
TellsFault before lines (NotPicks at) wording = TellsBadLine Picks before lines at wording
TellsFault before lines TooMany wording = TellsMany before lines wording
TellsFault before lines NoMemory wording = ⊤

-- in words, that so many picks were made before one that cannot be made
abbrev pub made_before : ℕ → List ℕ
made_before number =
    if number == 0 then codes " cannot make the first pick"
    else if number == 1 then codes " cannot make a pick after 1 pick"
    else codes " cannot make a pick after " ++ decimal number ++ codes " picks"

-- in words, that so many of the picks of a line were made
abbrev pub made_of_line : (made count : ℕ) → List ℕ
made_of_line made count =
    if made == 0 then codes "none of the " ++ decimal count ++ codes " picks of this line was made"
    else if made == 1 then codes "1 of the " ++ decimal count ++ codes " picks of this line was made"
    else decimal made ++ (codes " of the " ++ (decimal count ++ codes " picks of this line were made"))

-- of a pick that cannot be made, how many were made before it, and how many of those of its line, if that says several
pub record TellsMade (stop : Stop) (wording : Wording) : Type 0 where
  pub arm : List ℕ
  pub summary : string_bytes wording.summary ≡ arm ++ made_before stop.number
  pub made : 1 < stop.count → Contains (notes_of wording) (made_of_line stop.before stop.count)

-- what is told of it: that, and which line of the input its line is
abbrev pub TellsStop : (before : ℕ) → (lines : List ℕ) → Stop → Wording → Type 0
TellsStop before lines stop wording = TellsMade stop wording × TellsLine before lines stop.line wording
