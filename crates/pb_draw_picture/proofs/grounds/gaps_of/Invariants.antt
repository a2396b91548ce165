use Rattle.std.proofs.Common.{◌≡◌, take}
use Rattle.pb_draw_picture.specs.Grounds as spec
use Rattle.pb_draw_picture.proofs.grounds.gaps_of.Given as goal

-- the grounds of the stretches so far
abbrev pub invariant-loop-i : goal.invariant-loop-i
invariant-loop-i l = l.rects.items ≡ spec.gaps l.fn.bottom (take l.i l.knots)
