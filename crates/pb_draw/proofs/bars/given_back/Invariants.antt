use Rattle.std.proofs.Common.{◌≡◌, ◌≤◌, drop}
use Rattle.pb_draw.specs.Bars as spec
use Rattle.pb_draw.proofs.bars.given_back.Given as goal

-- the marks so far leave the question to those after them
abbrev pub invariant-loop-mark : goal.invariant-loop-mark
invariant-loop-mark l = record {
  few : l.inner ≤ l.mark-index;
  same : spec.given_back l.pick 0 l.marks ≡ spec.given_back l.pick l.inner (drop l.mark-index l.marks);
}
