use Rattle.std.proofs.Common.{◌≡◌, ◌++◌, map, take}
use Rattle.pb_draw_picture.specs.Marks as spec
use Rattle.pb_draw_picture.specs.Places.{places_of}
use Rattle.pb_draw_picture.specs.Shapes.{text_of}
use Rattle.pb_draw_picture.proofs.marks.add_numbers.Given as goal

-- the numbers of the picks so far
abbrev pub invariant-loop-i : goal.invariant-loop-i
invariant-loop-i l =
    map text_of l.labels.items ≡ map text_of l.initial.labels.items ++ spec.numbers (places_of l.grid) (take l.i l.marks)
