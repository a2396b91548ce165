-- The grounds of the stretches that are shortened, with their numbers, and what is said below a picture.
use Rattle.std.specs.Prelude.{ℕ, ◌+◌, ◌-◌, Bool, cond, nat_lt, List, [], ◌∷◌, ◌++◌, codes}
use Rattle.std.specs.Fmt.{decimal}
use Rattle.std.specs.List.{flat_map}
use Rattle.pb_draw.specs.declared.drawing.Integers.{Integers}
use Rattle.pb_draw_picture.specs.Axis.{squeezed}
use Rattle.pb_draw_picture.specs.declared.knot.Knot.{Knot}
use Rattle.pb_draw_picture.specs.declared.picture.LabelKind.TheVariants.{Note, Silent}
use Rattle.pb_draw_picture.specs.declared.picture.Rect.{Rect}
use Rattle.pb_draw_picture.specs.declared.picture.RectKind.TheVariants.{Gap}
use Rattle.pb_draw_picture.specs.Shapes.{Text, rect_to}
use Rattle.pb_draw_picture.specs.declared.sizes.TheConstants.{GAP_TEXT, GAP_TOP, LEFT_OUT_DOWN, LINE_NOTE_DOWN, MARGIN, MARK_NOTE_DOWN, NOTE_DOWN}

-- the silent picks after an event are a shortened stretch: there are more than 15
abbrev pub is_shortened : Knot → Bool
is_shortened k = nat_lt 15 k.silent

-- the ground of such a stretch: from where its picks begin to where they end, and down to where the rows end
abbrev pub gap_at : (foot : ℕ) → Knot → Rect
gap_at foot k = rect_to Gap (k.x + k.width) (k.x + k.width + squeezed k.silent k.silent) GAP_TOP (foot - GAP_TOP)

-- and how many picks it has, above it, beside the numbers of picks: `345 silent`
abbrev pub silent_at : Knot → Text
silent_at k = record { kind = Silent; x = k.x + k.width; y = GAP_TEXT; text = decimal k.silent ++ codes " silent" }

-- each shortened stretch has its ground
abbrev pub gap_if_shortened : (foot : ℕ) → Knot → List Rect
gap_if_shortened foot k = cond (is_shortened k) (gap_at foot k ∷ []) []

abbrev pub gaps : (foot : ℕ) → List Knot → List Rect
gaps foot knots = flat_map (gap_if_shortened foot) knots

-- and its number
abbrev pub silent_if_shortened : Knot → List Text
silent_if_shortened k = cond (is_shortened k) (silent_at k ∷ []) []

abbrev pub silents : List Knot → List Text
silents knots = flat_map silent_if_shortened knots

-- what is said below each picture
unfoldable pub time_note : List ℕ
time_note = codes "time goes from left to right, pick by pick, with the numbers of picks above. grey: shortened"

unfoldable pub line_note : List ℕ
line_note = codes "line: an arm. hatched: asks for more than is there. dotted: kept back, else those named could not finish"

unfoldable pub mark_note : List ℕ
mark_note = codes "bar: a hold. triangle: grant or return, circle: print, cross: fault, square: end, diamond: assigned, open: read"

-- and if reads are left out, or reads and assignments
unfoldable pub reads_note : List ℕ
reads_note = codes "more than 100 picks assign to an integer or read one: reads are not drawn"

unfoldable pub integers_note : List ℕ
integers_note = codes "more than 100 picks assign to an integer: assignments and reads are not drawn"

-- what of the integers is left out, if something is
abbrev pub left_out : (foot : ℕ) → Integers → List Text
left_out foot integers =
    cond integers.reads []
    (record { kind = Note; x = MARGIN; y = foot + LEFT_OUT_DOWN; text = cond integers.assignments reads_note integers_note } ∷ [])

-- what is said below a picture whose rows end at a height
abbrev pub notes : (foot : ℕ) → Integers → List Text
notes foot integers =
    record { kind = Note; x = MARGIN; y = foot + NOTE_DOWN; text = time_note }
    ∷ (record { kind = Note; x = MARGIN; y = foot + LINE_NOTE_DOWN; text = line_note }
    ∷ (record { kind = Note; x = MARGIN; y = foot + MARK_NOTE_DOWN; text = mark_note } ∷ left_out foot integers))
