use Rattle.std.proofs.Common.{◌≡◌, ◌++◌, drop}
use Rattle.pb_draw_picture.specs.Lanes as spec
use Rattle.pb_draw_picture.specs.Places.{places_of}
use Rattle.pb_draw_picture.proofs.lanes.add_lines_in.Given as goal

-- the line in the states so far
abbrev pub invariant-loop-i : goal.invariant-loop-i
invariant-loop-i l =
    l.initial.rects.items ++ spec.lines_in (places_of l.grid) l.y l.steps
    ≡ l.rects.items ++ spec.lines_in (places_of l.grid) l.y (drop l.i l.steps)
