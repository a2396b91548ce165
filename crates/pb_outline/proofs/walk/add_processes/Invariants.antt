use Rattle.std.proofs.Common.{◌≡◌, ◌++◌, map, take}
use Rattle.pb_tree.specs.View.{process_view}
use Rattle.pb_outline.specs.Places.{place, processes_places}
use Rattle.pb_outline.proofs.walk.add_processes.Given as goal

abbrev pub invariant-loop-p : goal.invariant-loop-p
invariant-loop-p g l =
    map place l.out.items
    ≡ map place l.initial.out.items ++ processes_places 0 (map process_view (take l.p l.processes.items))
