use Rattle.std.proofs.Common.{◌⊎◌, ℕ, length, map}
use Rattle.pb_names.specs.View.{process_view}
use Rattle.pb_plan.specs.Circles.{IsEdgeAmong, IsOnPath, IsPath}
use Rattle.pb_plan.specs.Nests.{IsAmong}
use Rattle.pb_plan.proofs.circle.follow.Given as goal

abbrev pub invariant-loop-k : goal.invariant-loop-k
invariant-loop-k g l = record {
  path : IsPath (IsEdgeAmong (map process_view l.processes) l.among) l.path.items l.at;
  there : IsAmong l.among l.at;
  covers : (q : ℕ) → IsAmong l.among q → IsAmong l.rest.items q ⊎ IsOnPath l.path.items q;
}

abbrev pub decreases-loop-k : goal.decreases-loop-k
decreases-loop-k g l = length l.rest.items
