use Rattle.std.proofs.Common.{◌≡◌, ◌+◌, ◌≤◌, ℕ, drop, length}
use Rattle.pb_base.specs.declared.pick.Pick.{Pick}
use Rattle.pb_draw.specs.Bars as spec
use Rattle.pb_draw.proofs.bars.still_open.Given as goal

-- of the holds so far those are kept that can be open later
abbrev pub invariant-loop-bar : goal.invariant-loop-bar
invariant-loop-bar l = record {
  few : length l.still.items ≤ l.bar-index;
  same : (arm : Pick) (t : ℕ) → l.at ≤ t
      → spec.open_holds arm t l.held ≡ spec.open_holds arm t l.still.items + spec.open_holds arm t (drop l.bar-index l.held);
}
