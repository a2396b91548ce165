-- Where a byte of a text is, and how that is shown.
use Rattle.std.specs.Prelude.{◌≡◌, ◌≢◌, ◌<◌, ◌≤◌, ◌⊎◌, ℕ, ◌+◌, ◌-◌, min, List, ◌++◌, length, map}
use Rattle.std.specs.Prelude.{codes, slice_index, slice_range}
use Rattle.std.specs.Fmt.{decimal}
use Rattle.pb_lexer.specs.Cutting.{line_at}
use Rattle.pb_message_excerpts.specs.Characters.{below_byte, below_bytes, shown_bytes}
use Rattle.pb_message_excerpts.specs.declared.place.Place.{Place}

-- the place of an offset: its line and its column, both from 1, and where that line begins and ends: no line
-- feed is between these, and one, or an end of the text, is on each side
pub record IsPlace (text : List ℕ) (offset : ℕ) (place : Place) : Type 0 where
  pub there : place.at ≡ offset
  pub line : place.line ≡ line_at text offset
  pub column : place.column ≡ offset - place.begin + 1
  pub from : place.begin ≤ offset
  pub to : offset ≤ place.end
  pub within : place.end ≤ length text
  pub none_before : (k : ℕ) → place.begin ≤ k → k < offset → slice_index text k ≢ 10
  pub none_behind : (k : ℕ) → offset ≤ k → k < place.end → slice_index text k ≢ 10
  pub first : (place.begin ≡ 0) ⊎ ((0 < place.begin) × (slice_index text (place.begin - 1) ≡ 10))
  pub last : (place.end ≡ length text) ⊎ (slice_index text place.end ≡ 10)

-- the part of a line that is shown: up to 100 bytes before the place, and up to 100 after it
abbrev pub shown_from : Place → ℕ
shown_from place = place.at - min 100 (place.at - place.begin)

abbrev pub shown_to : Place → ℕ
shown_to place = place.at + min 100 (place.end - place.at)

-- the margin: as wide as the number of the line and a space
abbrev pub margin_of : Place → List ℕ
margin_of place = map below_byte (decimal place.line) ++ codes " "

-- the number of the line and of the column, with what is named before them
abbrev pub arrow_line : List ℕ → Place → List ℕ
arrow_line label place =
    margin_of place ++ codes "--> " ++ label ++ codes "line " ++ decimal place.line
    ++ codes ", column " ++ decimal place.column ++ codes "\n"

-- a line with nothing after the margin
abbrev pub bar_line : Place → List ℕ
bar_line place = margin_of place ++ codes "|\n"

-- the line of the text, with its number
abbrev pub source_line : List ℕ → Place → List ℕ
source_line text place =
    decimal place.line ++ codes " | " ++ shown_bytes 0 (slice_range text (shown_from place) (shown_to place)) ++ codes "\n"

-- the mark below the place
abbrev pub mark_line : List ℕ → Place → List ℕ
mark_line text place =
    margin_of place ++ codes "| " ++ below_bytes 0 (slice_range text (shown_from place) place.at) ++ codes "^\n"

-- the place of a fault as it is shown, in four lines
abbrev pub excerpt : (label text : List ℕ) → Place → List ℕ
excerpt label text place = arrow_line label place ++ bar_line place ++ source_line text place ++ mark_line text place
