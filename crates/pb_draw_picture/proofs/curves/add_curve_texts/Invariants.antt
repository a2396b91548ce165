use Rattle.std.proofs.Common.{◌≡◌, ◌++◌, drop, map}
use Rattle.pb_base.specs.Lines.{names_view}
use Rattle.pb_draw_picture.specs.Curves as spec
use Rattle.pb_draw_picture.specs.Places.{places_of}
use Rattle.pb_draw_picture.specs.Shapes.{text_of}
use Rattle.pb_draw_picture.proofs.curves.add_curve_texts.Given as goal

-- the texts of the curves so far
abbrev pub invariant-loop-r : goal.invariant-loop-r
invariant-loop-r l =
    map text_of l.initial.labels.items ++ spec.curve_texts_from (names_view l.names) (places_of l.grid) l.capital 0 l.curves
    ≡ map text_of l.labels.items ++ spec.curve_texts_from (names_view l.names) (places_of l.grid) l.capital l.r (drop l.r l.curves)
