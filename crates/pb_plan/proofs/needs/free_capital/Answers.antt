use Rattle.std.proofs.Common.{arith}
use Rattle.pb_base.specs.Banker.{cell}
use Rattle.pb_plan.proofs.Columns.{sum_more}
use Rattle.pb_plan.proofs.needs.free_capital.Goals as goal

pub loop-p-preserved : goal.loop-p-preserved
loop-p-preserved c =
    let more = sum_more (λ p. cell c.args.claims.now p c.args.resource) c.loop-p.p in
    let v = c.loop-p.invariant.value in
    let w = c.loop-p.invariant.small in
    let f = c.from-total.ensures in
    let g = c.get.ensures in
    record { value = omega arith; small = omega arith }
