use Rattle.std.proofs.Common.{◌≡◌, ◌++◌, take, map}
use Rattle.pb_base.specs.Lines.{names_view}
use Rattle.pb_draw_picture.specs.Places.{places_of}
use Rattle.pb_draw_picture.specs.Shapes.{stretch_of}
use Rattle.pb_draw_picture.specs.Waits as spec
use Rattle.pb_draw_picture.proofs.waits.add_waits.Given as goal

-- the lines of the arms so far
abbrev pub invariant-loop-i : goal.invariant-loop-i
invariant-loop-i l =
    map stretch_of l.waits.items
    ≡ map stretch_of l.initial.waits.items ++ spec.waits (names_view l.names) (places_of l.grid) (take l.i l.lanes)
