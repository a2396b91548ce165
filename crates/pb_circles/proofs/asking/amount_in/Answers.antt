use Rattle.std.proofs.Common.{arith}
use Rattle.pb_base.proofs.LoanRows.{amount_in-more}
use Rattle.pb_circles.proofs.asking.amount_in.Goals as goal

pub loop-i-preserved : goal.loop-i-preserved
loop-i-preserved c =
    let more = amount_in-more c.args.bundle.now c.loop-i.i c.args.r c.get.result c.get.ensures in
    let s = c.share.ensures in
    let f = c.from-amount.ensures in
    let v = c.loop-i.invariant.value in
    let w = c.loop-i.invariant.small in
    record { value = omega arith; small = omega arith }
