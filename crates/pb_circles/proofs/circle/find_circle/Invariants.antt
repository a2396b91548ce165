use Rattle.std.proofs.Common.{◌<◌, length}
use Rattle.std.specs.Prelude.{All}
use Rattle.pb_machine.specs.Views.{machine_view}
use Rattle.pb_circles.proofs.CircleLemmas.{HasCircles}
use Rattle.pb_circles.proofs.circle.find_circle.Given as goal

abbrev pub invariant-loop-i : goal.invariant-loop-i
invariant-loop-i l = record {
  below : All (λ p. p < length (machine_view l.machine).processes) l.left.items;
  circles : HasCircles l.verified.code (machine_view l.machine) l.left.items;
}

abbrev pub decreases-loop-i : goal.decreases-loop-i
decreases-loop-i l = length l.left.items
