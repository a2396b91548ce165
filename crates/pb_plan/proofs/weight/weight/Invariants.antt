use Rattle.std.proofs.Common.{◌≡◌, ◌≤◌, ◌*◌, take}
use Rattle.pb_plan.specs.Parts.{weight}
use Rattle.pb_plan.proofs.weight.weight.Given as goal

abbrev pub invariant-loop-part : goal.invariant-loop-part
invariant-loop-part l = record {
  value : l.total ≡ weight (take l.part-index l.part-items);
  small : l.total ≤ 18446744073709551615 * l.part-index;
}
