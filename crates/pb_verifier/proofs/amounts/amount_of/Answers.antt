use Rattle.std.proofs.Common.{arith}
use Rattle.pb_code.specs.Bundles.{bundle_of}
use Rattle.pb_base.proofs.LoanRows.{amount_in-more}
use Rattle.pb_verifier.proofs.amounts.amount_of.Goals as goal

pub loop-i-preserved : goal.loop-i-preserved
loop-i-preserved c =
    let more = amount_in-more (bundle_of c.args.code.now c.args.bundle) c.loop-i.i c.args.resource c.pair_at.result c.pair_at.ensures in
    let s = c.share.ensures in
    let f = c.from-amount.ensures in
    let v = c.loop-i.invariant.value in
    let w = c.loop-i.invariant.small in
    record { value = omega arith; small = omega arith }
