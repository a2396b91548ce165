use Rattle.std.proofs.Common.{◌<◌, ℕ}
use Rattle.std.specs.Prelude.{All}
use Rattle.pb_circles.specs.Links.{IsAmong}
use Rattle.pb_circles.proofs.circle.numbers.Given as goal

abbrev pub invariant-loop-p : goal.invariant-loop-p
invariant-loop-p l = record {
  all : (q : ℕ) → q < l.p → IsAmong l.numbers.items q;
  below : All (λ q. q < l.count) l.numbers.items;
}
