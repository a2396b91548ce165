use Rattle.std.proofs.Common.{◌≡◌, ◌+◌, map, length, take}
use Rattle.pb_tree.specs.Measure.{saturated}
use Rattle.pb_tree.specs.View.{process_view}
use Rattle.pb_names.specs.Limits.{most, widest_in, inner_arms}
use Rattle.pb_names.proofs.limits.most_of.Given as goal

abbrev pub invariant-loop-process : goal.invariant-loop-process
invariant-loop-process g l = record {
  integers : l.most.integers
      ≡ most (λ process. length process.integers) (map process_view (take l.process-index l.process-items));
  fork : l.most.fork
      ≡ most (λ process. widest_in process.body) (map process_view (take l.process-index l.process-items));
  arms : l.most.arms
      ≡ saturated (most (λ process. 1 + inner_arms process.body)
      (map process_view (take l.process-index l.process-items)));
}
