use Rattle.std.proofs.Common.{◌≡◌, ◌++◌, drop, map}
use Rattle.pb_base.specs.Lines.{names_view}
use Rattle.pb_draw_picture.specs.Places.{places_of}
use Rattle.pb_draw_picture.specs.Shapes.{stretch_of}
use Rattle.pb_draw_picture.specs.Waits as spec
use Rattle.pb_draw_picture.proofs.waits.add_waits_in.Given as goal

-- the lines in the states so far
abbrev pub invariant-loop-i : goal.invariant-loop-i
invariant-loop-i l =
    map stretch_of l.initial.waits.items ++ spec.waits_in (names_view l.names) (places_of l.grid) l.arm l.steps
    ≡ map stretch_of l.waits.items ++ spec.waits_in (names_view l.names) (places_of l.grid) l.arm (drop l.i l.steps)
