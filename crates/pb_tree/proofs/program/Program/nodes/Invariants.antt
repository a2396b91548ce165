use Rattle.std.proofs.Common.{◌≡◌, map, take}
use Rattle.pb_tree.specs.Measure.{saturated, processes_nodes}
use Rattle.pb_tree.specs.View.{process_view}
use Rattle.pb_tree.proofs.program.Program.nodes.Given as goal

abbrev pub invariant-loop-process : goal.invariant-loop-process
invariant-loop-process g l =
    l.total ≡ saturated (processes_nodes (map process_view (take l.process-index l.process-items)))
