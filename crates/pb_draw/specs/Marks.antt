-- The marks of a run: each event at the pick that shows it, and each read and each assignment at the pick that makes it if they
-- are drawn, with the line of its arm.
use Rattle.std.specs.Prelude.{◌≡◌, ◌<◌, ℕ, ℤ, zero, suc, ◌+◌, cond, List, [], ◌∷◌, ◌++◌, Option, Some, None, option_and_then, slice_get, ⊤}
use Rattle.pb_base.specs.Lines.{HasNames, NameTable}
use Rattle.pb_base.specs.declared.event.Event.{Event}
use Rattle.pb_base.specs.declared.pick.Pick.{Pick}
use Rattle.pb_code.specs.Whole.{Code, ProcessLabels}
use Rattle.pb_debug_positions.specs.Searches.{arm_line_at, value_at}
use Rattle.pb_draw.specs.Accesses.{access_before}
use Rattle.pb_draw.specs.Walks.{event_at}
use Rattle.pb_draw.specs.declared.accesses.Access.{Access}
use Rattle.pb_draw.specs.declared.accesses.Access.TheVariants.{Assigns, Reads}
use Rattle.pb_draw.specs.declared.drawing.Happening.{Happening}
use Rattle.pb_draw.specs.declared.drawing.Happening.TheVariants as happening
use Rattle.pb_draw.specs.declared.drawing.Integers.{Integers}
use Rattle.pb_draw.specs.declared.drawing.Mark.{Mark}

-- the source line at which the arm of pick i is before that pick, if its place has one
abbrev pub line_before : Code → List ProcessLabels → List Pick → (i : ℕ) → Option ℕ
line_before code labels picks i =
    option_and_then (λ pick. arm_line_at code labels picks i pick.process pick.arm) (slice_get picks i)

-- an integer of the process of pick i before that pick
abbrev pub value_before : Code → List Pick → (i x : ℕ) → Option ℤ
value_before code picks i x = option_and_then (λ pick. value_at code picks i pick.process x) (slice_get picks i)

-- and after it
abbrev pub value_behind : Code → List Pick → (i x : ℕ) → Option ℤ
value_behind code picks i x = option_and_then (λ pick. value_at code picks (i + 1) pick.process x) (slice_get picks i)

-- a read of an integer that is this
abbrev pub read : (x : ℕ) → Option ℤ → Option Happening
read x None = None
read x (Some value) = Some (happening.Read x value)

-- an assignment to an integer that is this then
abbrev pub assigned : (x : ℕ) → Option ℤ → Option Happening
assigned x None = None
assigned x (Some value) = Some (happening.Assigned x value)

-- the read that a pick makes, if it is one and reads are drawn, of integers with these values
abbrev pub read_by : Integers → (values : ℕ → Option ℤ) → Option Access → Option Happening
read_by integers values None = None
read_by integers values (Some (Reads x)) = cond integers.reads (read x (values x)) None
read_by integers values (Some (Assigns x)) = None

-- the assignment that it makes, if it is one and assignments are drawn
abbrev pub assigned_by : Integers → (values : ℕ → Option ℤ) → Option Access → Option Happening
assigned_by integers values None = None
assigned_by integers values (Some (Reads x)) = None
assigned_by integers values (Some (Assigns x)) = cond integers.assignments (assigned x (values x)) None

-- the first of two that is there
abbrev pub or_else : Option Happening → Option Happening → Option Happening
or_else None other = other
or_else (Some what) other = Some what

-- the event of a pick, or else what it does to an integer
abbrev pub happening_of : Option Event → Option Happening → Option Happening
happening_of None other = other
happening_of (Some event) other = Some (happening.Did event)

-- what pick i has to show, of what is drawn: its event, or else the integer that it reads, with the value before it, or the one to
-- which it assigns, with the value after it
abbrev pub happening_at : Integers → Code → List Pick → (i : ℕ) → Option Happening
happening_at integers code picks i =
    happening_of (event_at code picks i)
    (or_else (read_by integers (value_before code picks i) (access_before code picks i))
    (assigned_by integers (value_behind code picks i) (access_before code picks i)))

-- the mark of what pick i shows, with a line; none if it shows nothing
abbrev pub mark_list : Option Happening → Option Pick → (source : Option ℕ) → (i : ℕ) → List Mark
mark_list None pick source i = []
mark_list (Some what) None source i = []
mark_list (Some what) (Some pick) source i = record { at = i; pick = pick; what = what; line = source } ∷ []

-- the mark of pick i, if it has one
abbrev pub marks_at : Integers → Code → List ProcessLabels → List Pick → (i : ℕ) → List Mark
marks_at integers code labels picks i =
    mark_list (happening_at integers code picks i) (slice_get picks i) (line_before code labels picks i) i

-- the marks of the first n picks, in their order
abbrev pub marks_before : Integers → Code → List ProcessLabels → List Pick → (n : ℕ) → List Mark
marks_before integers code labels picks zero = []
marks_before integers code labels picks (suc n) =
    marks_before integers code labels picks n ++ marks_at integers code labels picks n

-- all that an event speaks of has a name
abbrev pub IsNamed : NameTable → Happening → Type 0
IsNamed names (happening.Did event) = HasNames names event
IsNamed names (happening.Read x value) = ⊤
IsNamed names (happening.Assigned x value) = ⊤

-- of two marks the earlier is of an earlier pick
abbrev pub AreInOrder : List Mark → Type 0
AreInOrder marks = (i j : ℕ) (m n : Mark) → i < j → slice_get marks i ≡ Some m → slice_get marks j ≡ Some n → m.at < n.at
