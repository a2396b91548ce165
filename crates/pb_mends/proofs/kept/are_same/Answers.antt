use Rattle.pb_mends.proofs.Same.{same_more}
use Rattle.std.proofs.Common.{◌<◌, length, arith}
use Rattle.pb_mends.proofs.kept.are_same.Goals as goal

pub loop-i-preserved : goal.loop-i-preserved
loop-i-preserved c =
    let within : c.loop-i.i < length c.args.others.now = omega arith in
    same_more c.args.tokens.now c.args.others.now c.loop-i.i _ _ c.loop-i-test.true within
    (c.is_same.ensures c.if-not-is_same.false) c.loop-i.invariant
