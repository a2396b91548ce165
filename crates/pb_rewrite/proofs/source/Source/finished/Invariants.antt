use Rattle.std.proofs.Common.{◌≡◌, ℕ, ◌<◌, map, Some}
use Rattle.std.specs.Prelude.{slice_get}
use Rattle.pb_names.specs.Source.{SourceProcess, source_over}
use Rattle.pb_rewrite.specs.View.{process_view}
use Rattle.pb_rewrite.proofs.source.Source.finished.Given as goal

abbrev pub invariant-loop-process : goal.invariant-loop-process
invariant-loop-process g l =
    (p : ℕ) (process : SourceProcess) → p < l.process-index → slice_get (map process_view l.self.processes.items) p ≡ Some process
    → source_over process
