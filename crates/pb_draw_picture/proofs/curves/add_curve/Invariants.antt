use Rattle.std.proofs.Common.{◌≡◌, ◌++◌, drop}
use Rattle.pb_draw_picture.specs.Curves as spec
use Rattle.pb_draw_picture.specs.Places.{places_of}
use Rattle.pb_draw_picture.proofs.curves.add_curve.Given as goal

-- the curve in the steps so far
abbrev pub invariant-loop-i : goal.invariant-loop-i
invariant-loop-i l =
    l.initial.rects.items ++ spec.curve_in (places_of l.grid) l.r l.capital l.foot l.steps
    ≡ l.rects.items ++ spec.curve_in (places_of l.grid) l.r l.capital l.foot (drop l.i l.steps)
