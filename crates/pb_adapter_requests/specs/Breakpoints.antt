-- The lines and the events at which a client wants the run to stop.
use Rattle.std.specs.Prelude.{ℕ, zero, suc, nat_eq, nat_lt, cond, List, [], ◌∷◌, ◌++◌, length, slice_index_or, Bool, true, false, Option, Some, None, option_and_then, codes}
use Rattle.std.specs.List.{list_any}
use Rattle.std.specs.Str.{bytes_eq}
use Rattle.serde_json.specs.Data.{Data, Items, no_items, item, null, boolean, number, string, object, unsigned, no_members, member}
use Rattle.serde_json.specs.Find.{as_str}
use Rattle.pb_base.specs.declared.limits.TheConstants.{MAX_LINE}
use Rattle.pb_code.specs.Whole.{ProcessLabels}
use Rattle.pb_adapter_requests.specs.Requests.{Asked, argument, is_word, items_asked, number_in, text_in}
use Rattle.pb_adapter_requests.specs.Counting.{named_line, shown_line}
use Rattle.pb_adapter_requests.specs.declared.counting.Counting.{Counting}
use Rattle.pb_adapter_requests.specs.Responses.{list_below, listed}

-- the line that a number says; 0, which is none, if there is no number or it is past all lines
abbrev pub line_said : Counting → Option ℕ → ℕ
line_said counting None = 0
line_said counting (Some n) = cond (nat_lt MAX_LINE n) 0 (named_line counting n)

-- the line that an item of a list says
abbrev pub line_in : Counting → Data → ℕ
line_in counting d = line_said counting (number_in (codes "line") d)

-- the items of a list
abbrev pub datas_in : Items → List Data
datas_in no_items = []
datas_in (item d ds) = d ∷ datas_in ds

-- a number of each number below n
abbrev pub numbers_below : (ℕ → ℕ) → ℕ → List ℕ
numbers_below of zero = []
numbers_below of (suc n) = numbers_below of n ++ of n ∷ []

-- the line of each breakpoint of a list
abbrev pub lines_in : Counting → List Data → List ℕ
lines_in counting items = numbers_below (λ i. line_in counting (slice_index_or items i null)) (length items)

-- so of a list, if there is one
abbrev pub lines_if : Counting → Option Items → List ℕ
lines_if counting None = []
lines_if counting (Some items) = lines_in counting (datas_in items)

-- the lines that a request asks for, counted from 1
abbrev pub asked_lines : Counting → Asked → List ℕ
asked_lines counting r = lines_if counting (items_asked (codes "breakpoints") r)

-- the path of the text of which a request is
abbrev pub source_path : Asked → Option (List ℕ)
source_path r = option_and_then (text_in (codes "path")) (argument (codes "source") r)

-- whether that is this one; a request that names none is of the text that is launched
abbrev pub is_path : (path : List ℕ) → Option (List ℕ) → Bool
is_path path None = true
is_path path (Some named) = bytes_eq named path

abbrev pub is_of_text : (path : List ℕ) → Asked → Bool
is_of_text path r = is_path path (source_path r)

-- whether an item of a list is the word that asks to stop at events
abbrev pub is_events : Data → Bool
is_events d = is_word (codes "events") (as_str d)

-- whether an item of a list does, if there is a list
abbrev pub events_if : Option Items → Bool
events_if None = false
events_if (Some items) = list_any is_events (datas_in items)

-- whether a request asks to stop at events
abbrev pub asks_events : Asked → Bool
asks_events r = events_if (items_asked (codes "filters") r)

-- whether a place of the code has this line
abbrev pub is_line : ℕ → Option ℕ → Bool
is_line n None = false
is_line n (Some line) = nat_eq line n

-- whether some place of the code has this line
abbrev pub has_line : List ProcessLabels → ℕ → Bool
has_line labels n = list_any (λ l. list_any (is_line n) l.lines) labels

-- a line of the text that is launched, and whether the run can stop there
abbrev pub breakpoint_data : (verified : Bool) → (line : ℕ) → Data
breakpoint_data verified line = object (member (codes "line") (number (unsigned line))
    (member (codes "verified") (boolean verified) no_members))

-- a line of another text, at which the run cannot stop, and why
abbrev pub elsewhere_data : (line : ℕ) → Data
elsewhere_data line = object (member (codes "line") (number (unsigned line))
    (member (codes "message") (string (codes "this is not the text that is launched"))
    (member (codes "verified") (boolean false) no_members)))

-- what is answered of a line of the text that is launched, or of another one
abbrev pub answered_line : (own : Bool) → Counting → List ProcessLabels → (line : ℕ) → Data
answered_line own counting labels line =
    cond own (breakpoint_data (has_line labels line) (shown_line counting line)) (elsewhere_data (shown_line counting line))

-- the answer to a request for breakpoints
abbrev pub breakpoints_data : (own : Bool) → Counting → List ProcessLabels → List ℕ → Data
breakpoints_data own counting labels lines =
    listed (codes "breakpoints") (list_below (λ i. answered_line own counting labels (slice_index_or lines i 0)) (length lines))
