use Rattle.std.proofs.Common.{◌≡◌, ◌++◌, take}
use Rattle.pb_draw_picture.specs.Holds as spec
use Rattle.pb_draw_picture.specs.Places.{places_of}
use Rattle.pb_draw_picture.proofs.holds.add_holds.Given as goal

-- the bars of the holds so far
abbrev pub invariant-loop-i : goal.invariant-loop-i
invariant-loop-i l = l.rects.items ≡ l.initial.rects.items ++ spec.holds (places_of l.grid) (take l.i l.bars)
