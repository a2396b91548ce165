use Rattle.std.proofs.Common.{map}
use Rattle.pb_tree.specs.View.{name_view}
use Rattle.pb_names.specs.Causes.{InInteger}
use Rattle.pb_names.specs.Search.{IsFirst}
use Rattle.pb_names.proofs.FirstCauses.{AmongBelow}
use Rattle.pb_names.proofs.causes.first_in_integers.Given as goal

abbrev pub invariant-loop-i : goal.invariant-loop-i
invariant-loop-i g l = IsFirst (AmongBelow InInteger (map name_view l.integers.items) l.i) l.first
