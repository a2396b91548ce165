-- What a picture shows of a run.
use Rattle.std.specs.Prelude.{◌≡◌, ◌≤◌, ℕ, ◌+◌, ◌*◌, Bool, List, ◌++◌, length, map}
use Rattle.pb_base.specs.Lines.{NameTable}
use Rattle.pb_circles.specs.declared.link.Link.{Link}
use Rattle.pb_code.specs.Whole.{ProcessLabels}
use Rattle.pb_draw.specs.Marks.{AreInOrder}
use Rattle.pb_draw.specs.Arms.{AreDifferent}
use Rattle.pb_draw.specs.declared.drawing.Drawing.{Drawing}
use Rattle.pb_draw_picture.specs.declared.picture.Picture.{Picture}
use Rattle.pb_draw_picture.specs.declared.picture.Rect.{Rect}
use Rattle.pb_draw_picture.specs.Axis.{AreKnots, IsAxis, left_of, x_at}
use Rattle.pb_draw_picture.specs.Curves.{curve_texts_from, curves_from}
use Rattle.pb_draw_picture.specs.Grounds.{gaps, notes, silents}
use Rattle.pb_draw_picture.specs.Heads.{head_labels, head_of, width_for}
use Rattle.pb_draw_picture.specs.Holds.{bundles, holds}
use Rattle.pb_draw_picture.specs.Lanes.{lane_names, lines}
use Rattle.pb_draw_picture.specs.Marks.{AreFromLeft, numbers, signs}
use Rattle.pb_draw_picture.specs.Places.{Places}
use Rattle.pb_draw_picture.specs.Rows.{AreStacked, AreWithin, HaveNoLine}
use Rattle.pb_draw_picture.specs.Shapes.{Text, sign_of, stretch_of, text_of}
use Rattle.pb_draw_picture.specs.Waits.{waits}
use Rattle.pb_draw_picture.specs.declared.knot.Knot.{Knot}
use Rattle.pb_draw_picture.specs.declared.sizes.TheConstants.{BOTTOM, CURVE_ROW, MAX_ROWS, TOP}

-- where the rows of a picture end: those of the arms, and below them those of the resources
abbrev pub foot_of_all : Places → Drawing → ℕ
foot_of_all places d = places.bottom + length d.curves.items * CURVE_ROW

-- the rectangles of a picture: the grounds of shortened stretches, and then for each arm its line, for each hold
-- its bar, and for each resource its curve
abbrev pub AreRects : (capital : List ℕ) → Drawing → Places → List Knot → List Rect → Type 0
AreRects capital d places knots rects =
    rects ≡ ((gaps (foot_of_all places d) knots ++ lines places d.lanes.items) ++ holds places d.bars.items)
    ++ curves_from places capital 0 d.curves.items

-- its texts: how many picks a shortened stretch has, and then for each event the number of its pick, for each arm
-- that is ever live its name, for each hold its bundle, for each resource its name and amounts, the notes, and what is said
-- above the picture
abbrev pub AreTexts : NameTable → (capital : List ℕ) → Drawing → (head : List ℕ) → Places → List Knot → List Text → Type 0
AreTexts names capital d head places knots texts =
    texts ≡ (((((silents knots ++ numbers places d.marks.items) ++ lane_names names places d.lanes.items)
    ++ bundles names places d.bars.items) ++ curve_texts_from names places capital 0 d.curves.items)
    ++ notes (foot_of_all places d) d.integers) ++ head_labels head

-- a picture shows a drawing at some places, which are those of the events of its marks and go from left to right with
-- the picks, in rows that are one below the other: a mark for each event, and all that stands above; there are no other shapes.
-- If its run ends in a deadlock, it says so above, with a circular wait
pub record IsLayout (names : NameTable) (labels : List ProcessLabels) (capital : List ℕ) (d : Drawing) (deadlock : Bool)
    (circle : List Link) (p : Picture) : Type 0 where
  pub places : Places
  pub knots : List Knot
  pub events : AreKnots names labels d.picks (left_of names) d.marks.items knots
  pub at : places.x ≡ x_at knots
  pub axis : IsAxis d.marks.items places.x
  pub right : places.right ≡ places.x (d.picks + 1)
  pub rows : AreDifferent (map (λ lane. lane.pick) d.lanes.items) → length d.lanes.items ≤ MAX_ROWS
      → AreStacked places d.bars.items TOP d.lanes.items places.bottom
  pub others : HaveNoLine places d.lanes.items
  pub within : AreWithin d.bars.items
  pub rising : AreInOrder d.marks.items → AreFromLeft (map sign_of p.ticks.items)
  pub rects : AreRects capital d places knots p.rects.items
  pub waits : map stretch_of p.waits.items ≡ waits names places d.lanes.items
  pub texts : AreTexts names capital d (head_of names deadlock circle) places knots (map text_of p.labels.items)
  pub marks : map sign_of p.ticks.items ≡ signs names labels places d.marks.items
  pub wide : p.width ≡ width_for places.right (head_of names deadlock circle)
  pub high : p.height ≡ foot_of_all places d + BOTTOM
