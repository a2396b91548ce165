-- The texts of a picture.
use Rattle.std.specs.Prelude.{ℕ, ℤ, ◌/◌, nat_le, slice_get, Bool, cond, List, [], ◌++◌, length, Option, Some, None, codes, drop}
use Rattle.std.specs.Fmt.{decimal, signed_decimal}
use Rattle.std.specs.List.{flat_map}
use Rattle.pb_base.specs.Lines.{NameTable, fault_text, name_of, pairs_text, pick_text}
use Rattle.pb_base.specs.declared.event.Event.{Event}
use Rattle.pb_base.specs.declared.event.Event.TheVariants.{Granted, Returned, Printed, Faulted, Finished}
use Rattle.pb_base.specs.declared.pair.Pair.{Pair}
use Rattle.pb_base.specs.declared.pick.Pick.{Pick}
use Rattle.pb_code.specs.Whole.{ProcessLabels}
use Rattle.pb_draw.specs.declared.drawing.Happening.{Happening}
use Rattle.pb_draw.specs.declared.drawing.Happening.TheVariants as happening
use Rattle.pb_draw_picture.specs.declared.sizes.TheConstants.{SMALL_CHARACTER}

-- the amounts of a bundle, each with its resource: `k R`, with a space between two
abbrev pub bundle_text : NameTable → List Pair → List ℕ
bundle_text names bundle = drop 1 (pairs_text names bundle)

-- `, line N`, if there is a line
abbrev pub line_text : Option ℕ → List ℕ
line_text None = []
line_text (Some n) = codes ", line " ++ decimal n

-- what an event is: a grant and a return are of a bundle, and a fault is in a line
abbrev pub caption : NameTable → (source : Option ℕ) → Event → List ℕ
caption names source (Granted pick bundle) = bundle_text names bundle
caption names source (Returned pick bundle) = bundle_text names bundle
caption names source (Printed pick value) = codes "print " ++ signed_decimal value
caption names source (Faulted pick kind) = codes "fault " ++ fault_text kind ++ line_text source
caption names source (Finished process) = codes "end"

-- what is written beside its mark: a grant and a return have their hold
abbrev pub label_of : NameTable → (source : Option ℕ) → Event → List ℕ
label_of names source (Granted pick bundle) = []
label_of names source (Returned pick bundle) = []
label_of names source (Printed pick value) = caption names source (Printed pick value)
label_of names source (Faulted pick kind) = caption names source (Faulted pick kind)
label_of names source (Finished process) = caption names source (Finished process)

-- the name of an integer of a process, if it has one
abbrev pub integer_in : Option ProcessLabels → (x : ℕ) → List ℕ
integer_in None x = []
integer_in (Some labels) x = name_of labels.integers x

abbrev pub integer_text : List ProcessLabels → (p x : ℕ) → List ℕ
integer_text labels p x = integer_in (slice_get labels p) x

-- an integer that is read or assigned to, with its value: `x 1`
abbrev pub value_text : List ProcessLabels → (p x : ℕ) → ℤ → List ℕ
value_text labels p x value = integer_text labels p x ++ codes " " ++ signed_decimal value

-- a read as the title of its mark: `P.a read x 1`
abbrev pub read_line : NameTable → List ProcessLabels → Pick → (x : ℕ) → ℤ → List ℕ
read_line names labels pick x value =
    pick_text names pick ++ codes " read " ++ integer_text labels pick.process x ++ codes " " ++ signed_decimal value

-- and an assignment: `P.a x := 1`
abbrev pub assignment_line : NameTable → List ProcessLabels → Pick → (x : ℕ) → ℤ → List ℕ
assignment_line names labels pick x value =
    pick_text names pick ++ codes " " ++ integer_text labels pick.process x ++ codes " := " ++ signed_decimal value

-- what is written of what a pick shows, for which there is room
abbrev pub caption_of : NameTable → List ProcessLabels → Pick → (source : Option ℕ) → Happening → List ℕ
caption_of names labels pick source (happening.Did event) = caption names source event
caption_of names labels pick source (happening.Read x value) = value_text labels pick.process x value
caption_of names labels pick source (happening.Assigned x value) = value_text labels pick.process x value

-- `, P` for each of these processes
abbrev pub listed_text : NameTable → List ℕ → List ℕ
listed_text names rest = flat_map (λ p. codes ", " ++ name_of names.processes p) rest

-- the names of these processes, with a comma between two
abbrev pub names_text : NameTable → List ℕ → List ℕ
names_text names rest = drop 2 (listed_text names rest)

-- `P could not finish`
abbrev pub stuck_text : NameTable → List ℕ → List ℕ
stuck_text names rest = names_text names rest ++ codes " could not finish"

-- why an arm is kept back: `P.a kept back: Q could not finish`
abbrev pub kept_text : NameTable → Pick → List ℕ → List ℕ
kept_text names arm rest = pick_text names arm ++ codes " kept back: " ++ stuck_text names rest

-- there is room for a text
abbrev pub has_room : (width : ℕ) → List ℕ → Bool
has_room width text = nat_le (length text) (width / SMALL_CHARACTER)

-- a text if there is room for it, and else nothing
abbrev pub if_room : (width : ℕ) → List ℕ → List ℕ
if_room width text = cond (has_room width text) text []

-- who could not finish, as far as there is room: in words, or the names alone, or nothing
abbrev pub room_text : NameTable → (width : ℕ) → List ℕ → List ℕ
room_text names width rest =
    cond (has_room width (stuck_text names rest)) (stuck_text names rest) (if_room width (names_text names rest))

-- `R of k`: a resource, and its capital
abbrev pub resource_text : NameTable → (r capital : ℕ) → List ℕ
resource_text names r capital = name_of names.resources r ++ codes " of " ++ decimal capital
