use Rattle.std.proofs.Common.{◌≡◌, ◌++◌, drop}
use Rattle.pb_draw_picture.specs.Curves as spec
use Rattle.pb_draw_picture.specs.Places.{places_of}
use Rattle.pb_draw_picture.proofs.curves.add_curves.Given as goal

-- the curves so far
abbrev pub invariant-loop-r : goal.invariant-loop-r
invariant-loop-r l =
    l.initial.rects.items ++ spec.curves_from (places_of l.grid) l.capital 0 l.curves
    ≡ l.rects.items ++ spec.curves_from (places_of l.grid) l.capital l.r (drop l.r l.curves)
