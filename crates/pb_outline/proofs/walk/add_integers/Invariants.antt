use Rattle.std.proofs.Common.{◌≡◌, ◌++◌, map, take}
use Rattle.pb_tree.specs.View.{name_view}
use Rattle.pb_outline.specs.Places.{declared, place}
use Rattle.pb_outline.specs.declared.place.Kind.TheVariants.{Integer}
use Rattle.pb_outline.proofs.walk.add_integers.Given as goal

abbrev pub invariant-loop-name : goal.invariant-loop-name
invariant-loop-name g l =
    map place l.out.items
    ≡ map place l.initial.out.items ++ map (declared (Integer l.p)) (map name_view (take l.name-index l.name-items))
