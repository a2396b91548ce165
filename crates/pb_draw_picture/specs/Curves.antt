-- The curves of the resources: of each resource one, with its name, and an amount at each of its steps.
use Rattle.std.specs.Prelude.{ℕ, ◌+◌, ◌-◌, ◌*◌, ◌/◌, max, List, [], ◌∷◌, ◌++◌, Option, Some, None, map, slice_index}
use Rattle.std.specs.Fmt.{decimal}
use Rattle.pb_base.specs.Lines.{NameTable}
use Rattle.pb_draw.specs.declared.drawing.CashCurve.{CashCurve}
use Rattle.pb_draw.specs.declared.drawing.CashStep.{CashStep}
use Rattle.pb_draw_picture.specs.declared.picture.LabelKind.TheVariants.{Amount, Name}
use Rattle.pb_draw_picture.specs.declared.picture.Rect.{Rect}
use Rattle.pb_draw_picture.specs.declared.picture.RectKind.TheVariants.{Cash, Level}
use Rattle.pb_draw_picture.specs.Places.{Places, end_of}
use Rattle.pb_draw_picture.specs.Shapes.{Text, rect_to}
use Rattle.pb_draw_picture.specs.Texts.{resource_text}
use Rattle.pb_draw_picture.specs.declared.sizes.TheConstants.{AMOUNT_RIGHT, AMOUNT_UP, CURVE, CURVE_ROW, LEVEL, LEVEL_UP, MARGIN}

-- how high an amount is drawn: the whole capital is as high as a curve
abbrev pub height_of : (capital cash : ℕ) → ℕ
height_of capital cash = cash * CURVE / max capital 1

-- where the row of resource r ends
abbrev pub foot_of : Places → (r : ℕ) → ℕ
foot_of places r = places.bottom + (r + 1) * CURVE_ROW

-- where the first of some steps is, if there is one
abbrev pub next_of : List CashStep → Option ℕ
next_of [] = None
next_of (s ∷ steps) = Some s.at

-- an amount from one place to another: the area below the curve, and the curve itself
abbrev pub area_in : (r capital foot cash x to : ℕ) → Rect
area_in r capital foot cash x to =
    rect_to (Cash r) x to (foot - height_of capital cash) (height_of capital cash)

abbrev pub level_in : (capital foot cash x to : ℕ) → Rect
level_in capital foot cash x to = rect_to Level x to (foot - height_of capital cash - LEVEL_UP) LEVEL

-- the curve of resource r, each amount up to the next
abbrev pub curve_in : Places → (r capital foot : ℕ) → List CashStep → List Rect
curve_in places r capital foot [] = []
curve_in places r capital foot (s ∷ steps) =
    area_in r capital foot s.cash (places.x s.at) (end_of places (next_of steps))
    ∷ (level_in capital foot s.cash (places.x s.at) (end_of places (next_of steps))
    ∷ curve_in places r capital foot steps)

-- the amount at a step
abbrev pub amount_at : Places → (capital foot : ℕ) → CashStep → Text
amount_at places capital foot s = record {
  kind = Amount;
  x = places.x s.at + AMOUNT_RIGHT;
  y = foot - height_of capital s.cash - AMOUNT_UP;
  text = decimal s.cash;
}

-- the name of resource r, with its capital
abbrev pub name_at : NameTable → Places → (r capital : ℕ) → Text
name_at names places r capital =
    record { kind = Name; x = MARGIN; y = foot_of places r; text = resource_text names r capital }

-- the curves of the resources from r on, each in its own row
abbrev pub curves_from : Places → (capital : List ℕ) → (r : ℕ) → List CashCurve → List Rect
curves_from places capital r [] = []
curves_from places capital r (curve ∷ curves) =
    curve_in places r (slice_index capital r) (foot_of places r) curve.steps.items ++ curves_from places capital (r + 1) curves

-- and their texts
abbrev pub curve_texts_from : NameTable → Places → (capital : List ℕ) → (r : ℕ) → List CashCurve → List Text
curve_texts_from names places capital r [] = []
curve_texts_from names places capital r (curve ∷ curves) =
    (name_at names places r (slice_index capital r)
    ∷ map (amount_at places (slice_index capital r) (foot_of places r)) curve.steps.items)
    ++ curve_texts_from names places capital (r + 1) curves
