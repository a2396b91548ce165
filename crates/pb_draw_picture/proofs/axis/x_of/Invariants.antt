use Rattle.std.proofs.Common.{◌≡◌, ◌<◌, ◌+◌, ◌-◌, ◌≤◌, ℕ, Some, length}
use Rattle.std.specs.Prelude.{slice_get}
use Rattle.pb_draw_picture.specs.declared.knot.Knot.{Knot}
use Rattle.pb_draw_picture.proofs.axis.x_of.Given as goal

-- the last knot below `low` is not after the position, and that at `high` is
abbrev pub invariant-loop-low : goal.invariant-loop-low
invariant-loop-low l = record {
  order : l.low ≤ l.high;
  within : l.high ≤ length l.knots;
  before : (k : ℕ) (knot : Knot) → k + 1 ≡ l.low → slice_get l.knots k ≡ Some knot → knot.position ≤ l.position;
  after : (knot : Knot) → slice_get l.knots l.high ≡ Some knot → l.position < knot.position;
}

abbrev pub decreases-loop-low : goal.decreases-loop-low
decreases-loop-low l = l.high - l.low
