use Rattle.std.proofs.Common.{map}
use Rattle.pb_tree.specs.View.{demand_view}
use Rattle.pb_names.specs.Causes.{InDemand}
use Rattle.pb_names.specs.Search.{IsFirst, names_in}
use Rattle.pb_names.proofs.FirstCauses.{AmongBelow}
use Rattle.pb_names.proofs.causes.first_in_hold.Given as goal

abbrev pub invariant-loop-i : goal.invariant-loop-i
invariant-loop-i g l =
    IsFirst (AmongBelow (InDemand (names_in l.resources)) (map demand_view l.demands.items) l.i) l.first
