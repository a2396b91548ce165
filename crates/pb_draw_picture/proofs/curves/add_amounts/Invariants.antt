use Rattle.std.proofs.Common.{◌≡◌, ◌++◌, map, take}
use Rattle.pb_draw_picture.specs.Curves as spec
use Rattle.pb_draw_picture.specs.Places.{places_of}
use Rattle.pb_draw_picture.specs.Shapes.{text_of}
use Rattle.pb_draw_picture.proofs.curves.add_amounts.Given as goal

-- the amounts of the steps so far
abbrev pub invariant-loop-i : goal.invariant-loop-i
invariant-loop-i l =
    map text_of l.labels.items
    ≡ map text_of l.initial.labels.items ++ map (spec.amount_at (places_of l.grid) l.capital l.foot) (take l.i l.steps)
