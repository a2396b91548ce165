-- What a line that says no pick or no print has wrong at its ends.
use Rattle.std.specs.Prelude.{ℕ, ◌-◌, ◌||◌, ◌==◌, Bool, List, ◌++◌, Option, None, Some, codes, if◌then◌else◌, length, slice_index}
use Rattle.pb_message_stops.specs.declared.ends.Ends.{Ends}
use Rattle.pb_message_stops.specs.declared.ends.Ends.TheVariants.{BlankBefore, BlankBehind, Empty, Return}
use Rattle.pb_message_stops.specs.declared.ends.Form.{Form}
use Rattle.pb_message_stops.specs.declared.ends.Form.TheVariants.{Picks, Prints}

-- a space or a tab
abbrev pub is_blank : ℕ → Bool
is_blank byte = (byte == 32) || (byte == 9)

-- what is wrong: the line is empty, ends with a carriage return or a blank, or begins with a blank
abbrev pub ends_of : List ℕ → Option Ends
ends_of line =
    if length line == 0 then Some Empty
    else if slice_index line (length line - 1) == 13 then Some Return
    else if is_blank (slice_index line (length line - 1)) then Some BlankBehind
    else if is_blank (slice_index line 0) then Some BlankBefore
    else None

-- what is usually meant, by what the lines say
abbrev pub ends_hint : Form → Ends → List ℕ
ends_hint Picks Empty = codes "each line after the line %% is a pick line: leave empty lines out"
ends_hint Prints Empty = codes "each line after the line %% is a print line: leave empty lines out"
ends_hint Picks Return = codes "save the picks with the line ends of Unix: a line feed alone"
ends_hint Prints Return = codes "save the prints with the line ends of Unix: a line feed alone"
ends_hint Picks BlankBehind = codes "leave out the blank after the count"
ends_hint Prints BlankBehind = codes "leave out the blank at its end"
ends_hint Picks BlankBefore = codes "leave out the blank before the process"
ends_hint Prints BlankBefore = codes "leave out the blank before the process"
