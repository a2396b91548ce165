use Rattle.std.proofs.Common.{◌≡◌, ◌≤◌, ◌*◌}
use Rattle.std.specs.Prelude.{sum_by}
use Rattle.std.specs.List.{range_with_len}
use Rattle.pb_base.specs.Banker.{cell}
use Rattle.pb_plan.proofs.needs.free_capital.Given as goal

abbrev pub invariant-loop-p : goal.invariant-loop-p
invariant-loop-p l = record {
  value : l.total ≡ sum_by (λ p. cell l.claims p l.resource) (range_with_len 0 l.p);
  small : l.total ≤ 18446744073709551615 * l.p;
}
