use Rattle.std.proofs.Common.{◌≡◌, drop, map, max}
use Rattle.pb_draw_picture.specs.Axis.{longest}
use Rattle.pb_draw_picture.proofs.grid.longest.Given as goal

-- with the names to come it is the longest of all
abbrev pub invariant-loop-name : goal.invariant-loop-name
invariant-loop-name l =
    longest (map (λ name. name.items) l.names) ≡ max l.most (longest (map (λ name. name.items) (drop l.name-index l.names)))
