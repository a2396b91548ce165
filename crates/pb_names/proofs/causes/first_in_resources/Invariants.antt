use Rattle.std.proofs.Common.{map}
use Rattle.pb_tree.specs.View.{resource_view}
use Rattle.pb_names.specs.Causes.{InResource}
use Rattle.pb_names.specs.Search.{IsFirst}
use Rattle.pb_names.proofs.FirstCauses.{AmongBelow}
use Rattle.pb_names.proofs.causes.first_in_resources.Given as goal

abbrev pub invariant-loop-i : goal.invariant-loop-i
invariant-loop-i g l = IsFirst (AmongBelow InResource (map resource_view l.resources.items) l.i) l.first
