use Rattle.std.proofs.Common.{map}
use Rattle.pb_tree.specs.View.{process_view}
use Rattle.pb_names.specs.Causes.{InProcess}
use Rattle.pb_names.specs.Search.{IsFirst, names_in}
use Rattle.pb_names.proofs.FirstCauses.{AmongBelow}
use Rattle.pb_names.proofs.causes.first_in_processes.Given as goal

abbrev pub invariant-loop-i : goal.invariant-loop-i
invariant-loop-i g l =
    IsFirst (AmongBelow (InProcess (names_in l.resources)) (map process_view l.processes.items) l.i) l.first
