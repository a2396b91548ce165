use Rattle.std.proofs.Common.{arith}
use Rattle.pb_code.proofs.NumeralLemmas.{digit_more}
use Rattle.pb_object.proofs.words.saturated.Goals as goal

pub loop-digit-preserved : goal.loop-digit-preserved
loop-digit-preserved c =
    let m = digit_more c.args.digits.now c.loop-digit.digit-index c.requires c.loop-digit-test.true in
    omega (arith, m.0, m.1)
