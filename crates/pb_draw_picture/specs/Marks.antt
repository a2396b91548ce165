-- The marks of a picture, and the numbers of their picks above them: of each event one, and of each read and each assignment
-- that is drawn.
use Rattle.std.specs.Prelude.{◌≡◌, ◌<◌, ℕ, ℤ, ◌+◌, ◌-◌, List, Option, Some, map, slice_get}
use Rattle.std.specs.Fmt.{decimal}
use Rattle.pb_base.specs.Lines.{NameTable, line_of}
use Rattle.pb_base.specs.declared.event.Event.{Event}
use Rattle.pb_base.specs.declared.event.Event.TheVariants.{Granted, Returned, Printed, Faulted, Finished}
use Rattle.pb_base.specs.declared.pick.Pick.{Pick}
use Rattle.pb_code.specs.Whole.{ProcessLabels}
use Rattle.pb_draw.specs.declared.drawing.Happening.{Happening}
use Rattle.pb_draw.specs.declared.drawing.Happening.TheVariants as happening
use Rattle.pb_draw.specs.declared.drawing.Mark.{Mark}
use Rattle.pb_draw_picture.specs.declared.picture.LabelKind.TheVariants.{Number}
use Rattle.pb_draw_picture.specs.declared.picture.TickKind.{TickKind}
use Rattle.pb_draw_picture.specs.declared.picture.TickKind.TheVariants.{Grant, Return, Print, Fault, End, Read, Assign}
use Rattle.pb_draw_picture.specs.Places.{Places}
use Rattle.pb_draw_picture.specs.Shapes.{Sign, Text}
use Rattle.pb_draw_picture.specs.Texts.{assignment_line, label_of, read_line, value_text}
use Rattle.pb_draw_picture.specs.declared.sizes.TheConstants.{LABEL_LEFT, LABEL_UP, MIDDLE, NUMBER_Y}

-- what an event is
abbrev pub kind_of : Event → TickKind
kind_of (Granted pick bundle) = Grant
kind_of (Returned pick bundle) = Return
kind_of (Printed pick value) = Print
kind_of (Faulted pick kind) = Fault
kind_of (Finished process) = End

-- a mark at a place, with its title and with the text beside it
abbrev pub sign_at : TickKind → (x y : ℕ) → (title label : List ℕ) → Sign
sign_at kind x y title label = record {
  kind = kind;
  x = x;
  y = y;
  title = title;
  label = label;
  label_x = x - LABEL_LEFT;
  label_y = y - LABEL_UP;
}

-- an event of a source line at a place: its kind, its line as the title, and its text
abbrev pub event_at : NameTable → (x y : ℕ) → (source : Option ℕ) → Event → Sign
event_at names x y source event = sign_at (kind_of event) x y (line_of names event) (label_of names source event)

-- the mark of a read at a place
abbrev pub read_at : NameTable → List ProcessLabels → (x y : ℕ) → Pick → (integer : ℕ) → ℤ → Sign
read_at names labels x y pick integer value =
    sign_at Read x y (read_line names labels pick integer value) (value_text labels pick.process integer value)

-- and of an assignment
abbrev pub assign_at : NameTable → List ProcessLabels → (x y : ℕ) → Pick → (integer : ℕ) → ℤ → Sign
assign_at names labels x y pick integer value =
    sign_at Assign x y (assignment_line names labels pick integer value) (value_text labels pick.process integer value)

-- the mark of what a pick shows
abbrev pub sign_for : NameTable → List ProcessLabels → (x y : ℕ) → Pick → (source : Option ℕ) → Happening → Sign
sign_for names labels x y pick source (happening.Did event) = event_at names x y source event
sign_for names labels x y pick source (happening.Read integer value) = read_at names labels x y pick integer value
sign_for names labels x y pick source (happening.Assigned integer value) = assign_at names labels x y pick integer value

-- each at the position after its pick, on the line of its arm
abbrev pub signs : NameTable → List ProcessLabels → Places → List Mark → List Sign
signs names labels places marks =
    map (λ m. sign_for names labels (places.x (m.at + 1)) (places.line m.pick + MIDDLE) m.pick m.line m.what) marks

-- and above it the number of the pick
abbrev pub numbers : Places → List Mark → List Text
numbers places marks =
    map (λ m. record { kind = Number; x = places.x (m.at + 1); y = NUMBER_Y; text = decimal m.at }) marks

-- of two marks the earlier is further left
abbrev pub AreFromLeft : List Sign → Type 0
AreFromLeft marks = (i j : ℕ) (m n : Sign) → i < j → slice_get marks i ≡ Some m → slice_get marks j ≡ Some n → m.x < n.x
