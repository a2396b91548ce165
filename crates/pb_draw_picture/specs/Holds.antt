-- The bars of the holds: of each hold one, with its bundle.
use Rattle.std.specs.Prelude.{ℕ, ◌+◌, List, [], ◌∷◌, Option, Some, None, map}
use Rattle.pb_base.specs.Lines.{NameTable}
use Rattle.pb_base.specs.declared.pair.Pair.{Pair}
use Rattle.pb_draw.specs.declared.drawing.Bar.{Bar}
use Rattle.pb_draw_picture.specs.declared.picture.LabelKind.TheVariants.{Bundle}
use Rattle.pb_draw_picture.specs.declared.picture.Rect.{Rect}
use Rattle.pb_draw_picture.specs.declared.picture.RectKind.TheVariants.{Hold}
use Rattle.pb_draw_picture.specs.Places.{Places, end_of, hold_y}
use Rattle.pb_draw_picture.specs.Shapes.{Text, rect_to}
use Rattle.pb_draw_picture.specs.Texts.{bundle_text}
use Rattle.pb_draw_picture.specs.declared.sizes.TheConstants.{BAR, BUNDLE_DOWN, BUNDLE_RIGHT}

-- the position after a pick, if there is one
abbrev pub behind : Option ℕ → Option ℕ
behind None = None
behind (Some at) = Some (at + 1)

-- the resource whose colour it has: the first of the bundle
abbrev pub colour_of : List Pair → ℕ
colour_of [] = 0
colour_of (pair ∷ bundle) = pair.resource

-- the bar of a hold: from the position after the pick that takes it to that after the pick that gives it back
abbrev pub hold_at : Places → Bar → Rect
hold_at places bar =
    rect_to (Hold (colour_of bar.bundle)) (places.x (bar.taken + 1)) (end_of places (behind bar.returned)) (hold_y places bar) BAR

-- its bundle is written in it
abbrev pub bundle_at : NameTable → Places → Bar → Text
bundle_at names places bar = record {
  kind = Bundle;
  x = places.x (bar.taken + 1) + BUNDLE_RIGHT;
  y = hold_y places bar + BUNDLE_DOWN;
  text = bundle_text names bar.bundle;
}

-- the bars of holds
abbrev pub holds : Places → List Bar → List Rect
holds places bars = map (hold_at places) bars

-- and their bundles
abbrev pub bundles : NameTable → Places → List Bar → List Text
bundles names places bars = map (bundle_at names places) bars
