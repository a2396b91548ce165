use Rattle.std.proofs.Common.{◌≡◌, map, take}
use Rattle.pb_base.specs.Lines.{names_view}
use Rattle.pb_code.specs.View.{labels_view}
use Rattle.pb_draw_picture.specs.Marks as spec
use Rattle.pb_draw_picture.specs.Places.{places_of}
use Rattle.pb_draw_picture.specs.Shapes.{sign_of}
use Rattle.pb_draw_picture.proofs.marks.marks_of.Given as goal

-- the marks of the events so far
abbrev pub invariant-loop-i : goal.invariant-loop-i
invariant-loop-i l = map sign_of l.ticks.items ≡ spec.signs (names_view l.names) (labels_view l.labels) (places_of l.grid) (take l.i l.marks)
