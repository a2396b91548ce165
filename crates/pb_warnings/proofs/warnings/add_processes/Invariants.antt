use Rattle.std.proofs.Common.{◌≡◌, ◌++◌, map, take}
use Rattle.std.specs.List.{flat_map}
use Rattle.pb_tree.specs.View.{process_view}
use Rattle.pb_warnings.specs.Warnings.{process_warnings, warning}
use Rattle.pb_warnings.proofs.warnings.add_processes.Given as goal

abbrev pub invariant-loop-process : goal.invariant-loop-process
invariant-loop-process g l =
    map warning l.out.items
    ≡ map warning l.initial.out.items
    ++ flat_map (process_warnings l.text) (map process_view (take l.process-index l.process-items))
