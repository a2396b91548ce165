use Rattle.std.proofs.Common.{◌≡◌, ◌≤◌, ◌*◌, take}
use Rattle.pb_base.specs.Bundle.{amount_in}
use Rattle.pb_circles.proofs.asking.amount_in.Given as goal

abbrev pub invariant-loop-i : goal.invariant-loop-i
invariant-loop-i l = record {
  value : l.amount ≡ amount_in (take l.i l.bundle) l.r;
  small : l.amount ≤ 4294967295 * l.i;
}
