use Rattle.std.proofs.Common.{ℕ, ◌-◌, ◌<◌, ◌≤◌, length}
use Rattle.pb_history.proofs.SpanEnds.{end_of}
use Rattle.pb_history.proofs.spans.Spans.rest.Given as goal

abbrev pub invariant-loop-low : goal.invariant-loop-low
invariant-loop-low l = record {
  order : l.low ≤ l.high;
  within : l.high ≤ length l.self-inside.ends.items;
  before : (k : ℕ) → k < l.low → end_of l.self-inside.ends.items k ≤ l.i;
  after : (k : ℕ) → l.high ≤ k → k < length l.self-inside.ends.items → l.i < end_of l.self-inside.ends.items k;
}

abbrev pub decreases-loop-low : goal.decreases-loop-low
decreases-loop-low l = l.high - l.low
