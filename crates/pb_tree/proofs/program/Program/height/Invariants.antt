use Rattle.std.proofs.Common.{◌≡◌, map, take}
use Rattle.pb_tree.specs.Measure.{saturated, processes_height}
use Rattle.pb_tree.specs.View.{process_view}
use Rattle.pb_tree.proofs.program.Program.height.Given as goal

abbrev pub invariant-loop-process : goal.invariant-loop-process
invariant-loop-process g l =
    l.highest ≡ saturated (processes_height (map process_view (take l.process-index l.process-items)))
