use Rattle.std.proofs.Common.{◌≡◌, ◌++◌, map, take}
use Rattle.pb_base.specs.Lines.{names_view}
use Rattle.pb_draw_picture.specs.Holds as spec
use Rattle.pb_draw_picture.specs.Places.{places_of}
use Rattle.pb_draw_picture.specs.Shapes.{text_of}
use Rattle.pb_draw_picture.proofs.holds.add_bundles.Given as goal

-- the bundles of the holds so far
abbrev pub invariant-loop-i : goal.invariant-loop-i
invariant-loop-i l =
    map text_of l.labels.items
    ≡ map text_of l.initial.labels.items ++ spec.bundles (names_view l.names) (places_of l.grid) (take l.i l.bars)
