use Rattle.std.proofs.Common.{◌≡◌, ◌++◌, take}
use Rattle.pb_draw_picture.specs.Lanes as spec
use Rattle.pb_draw_picture.specs.Places.{places_of}
use Rattle.pb_draw_picture.proofs.lanes.add_lines.Given as goal

-- the lines of the arms so far
abbrev pub invariant-loop-i : goal.invariant-loop-i
invariant-loop-i l = l.rects.items ≡ l.initial.rects.items ++ spec.lines (places_of l.grid) (take l.i l.lanes)
