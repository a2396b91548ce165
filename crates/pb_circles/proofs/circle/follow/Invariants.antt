use Rattle.std.proofs.Common.{◌⊎◌, ℕ, length}
use Rattle.pb_circles.specs.Circles.{IsPath, IsOnPath}
use Rattle.pb_circles.specs.Links.{IsAmong, IsLink}
use Rattle.pb_machine.specs.Views.{machine_view}
use Rattle.pb_circles.proofs.circle.follow.Given as goal

abbrev pub invariant-loop-k : goal.invariant-loop-k
invariant-loop-k l = record {
  path : IsPath (IsLink l.verified.code (machine_view l.machine)) l.path.items l.at;
  there : IsAmong l.among l.at;
  covers : (q : ℕ) → IsAmong l.among q → IsAmong l.rest.items q ⊎ IsOnPath l.path.items q;
}

abbrev pub decreases-loop-k : goal.decreases-loop-k
decreases-loop-k l = length l.rest.items
