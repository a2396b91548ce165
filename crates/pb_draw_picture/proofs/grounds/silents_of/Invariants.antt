use Rattle.std.proofs.Common.{◌≡◌, map, take}
use Rattle.pb_draw_picture.specs.Grounds as spec
use Rattle.pb_draw_picture.specs.Shapes.{text_of}
use Rattle.pb_draw_picture.proofs.grounds.silents_of.Given as goal

-- the numbers of the stretches so far
abbrev pub invariant-loop-i : goal.invariant-loop-i
invariant-loop-i l = map text_of l.labels.items ≡ spec.silents (take l.i l.knots)
