use Rattle.std.proofs.Common.{map, take}
use Rattle.std.specs.Prelude.{All}
use Rattle.pb_tree.specs.View.{process_view}
use Rattle.pb_names.specs.Ready.{AreComplete}
use Rattle.pb_names.proofs.complete.is_complete.Given as goal

abbrev pub invariant-loop-process : goal.invariant-loop-process
invariant-loop-process g l =
    All (λ process. AreComplete process.body) (map process_view (take l.process-index l.process-items))
