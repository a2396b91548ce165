use Rattle.std.proofs.Common.{arith}
use Rattle.pb_warnings.proofs.Walks.{claims_more}
use Rattle.pb_warnings.proofs.claimed.all_claims.Goals as goal

pub loop-p-preserved : goal.loop-p-preserved
loop-p-preserved c =
    let t = c.loop-p-test.true in
    let n = c.processes-p-end.ensures.number in
    let more = claims_more c.args.claims.now c.loop-p.p c.args.resource (omega (arith, t, n)) in
    let v = c.loop-p.invariant.value in
    let w = c.loop-p.invariant.small in
    let f = c.from-total.ensures in
    let g = c.get.ensures in
    record { value = omega arith; small = omega arith }
