use Rattle.std.proofs.Common.{◌≡◌, ◌++◌, map, take}
use Rattle.std.specs.List.{flat_map}
use Rattle.pb_tree.specs.View.{name_view, process_view}
use Rattle.pb_warnings.specs.Warnings.{unread, warning}
use Rattle.pb_warnings.proofs.integers.add_integers.Given as goal

abbrev pub invariant-loop-integer : goal.invariant-loop-integer
invariant-loop-integer g l =
    map warning l.out.items
    ≡ map warning l.initial.out.items
    ++ flat_map (unread l.text (process_view l.process)) (map name_view (take l.integer-index l.integer-items))
