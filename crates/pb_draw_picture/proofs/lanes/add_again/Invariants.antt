use Rattle.std.proofs.Common.{◌≡◌, ◌++◌, map}
use Rattle.pb_base.specs.Lines.{names_view}
use Rattle.pb_draw_picture.specs.Lanes as spec
use Rattle.pb_draw_picture.specs.Places.{places_of}
use Rattle.pb_draw_picture.specs.Shapes.{text_of}
use Rattle.pb_draw_picture.proofs.lanes.add_again.Given as goal

-- the names at the places so far
abbrev pub invariant-loop-k : goal.invariant-loop-k
invariant-loop-k l =
    map text_of l.labels.items
    ≡ map text_of l.initial.labels.items ++ spec.names_again (names_view l.names) (places_of l.grid) l.lane l.k
