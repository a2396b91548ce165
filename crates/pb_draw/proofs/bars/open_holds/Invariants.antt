use Rattle.std.proofs.Common.{◌≡◌, ◌+◌, ◌≤◌, drop}
use Rattle.pb_draw.specs.Bars as spec
use Rattle.pb_draw.proofs.bars.open_holds.Given as goal

-- the holds so far are counted
abbrev pub invariant-loop-bar : goal.invariant-loop-bar
invariant-loop-bar l = record {
  few : l.holds ≤ l.bar-index;
  same : spec.open_holds l.pick l.at l.bars ≡ l.holds + spec.open_holds l.pick l.at (drop l.bar-index l.bars);
}
