use Rattle.std.proofs.Common.{◌≡◌, map, take}
use Rattle.pb_rewrite.specs.View.{process_view}
use Rattle.pb_rewrite.proofs.Openings.{opened}
use Rattle.pb_rewrite.proofs.source.processes_for.Given as goal

abbrev pub invariant-loop-process : goal.invariant-loop-process
invariant-loop-process g l = map process_view l.made.items ≡ opened (take l.process-index l.process-items)
