use Rattle.std.proofs.Common.{◌<◌, ◌^◌, ◌+◌, arith}
use Rattle.std.specs.Str.Parse.{digits_value}
use Rattle.std.proofs.lemmas.Str.Parse.{digits_value-take-le, digits_value_short}
use Rattle.pb_code.proofs.NumeralLemmas.{digit_more, own}
use Rattle.pb_desk.proofs.entry.value.Goals as goal

pub overflow_mul-number : goal.overflow_mul-number
overflow_mul-number c =
    let m = digit_more c.args.digits.now c.loop-digit.digit-index c.requires.digits c.loop-digit-test.true in
    let le = digits_value-take-le 10 c.args.digits.now (c.loop-digit.digit-index + 1) (omega arith) in
    let lt : digits_value 10 c.args.digits.now < 10 ^ 18 = digits_value_short own c.args.digits.now 18 c.requires.digits (omega arith) in
    omega (arith, m.0, m.1, le, lt)

pub overflow_add-number : goal.overflow_add-number
overflow_add-number c =
    let m = digit_more c.args.digits.now c.loop-digit.digit-index c.requires.digits c.loop-digit-test.true in
    let le = digits_value-take-le 10 c.args.digits.now (c.loop-digit.digit-index + 1) (omega arith) in
    let lt : digits_value 10 c.args.digits.now < 10 ^ 18 = digits_value_short own c.args.digits.now 18 c.requires.digits (omega arith) in
    omega (arith, m.0, m.1, le, lt)

pub loop-digit-preserved : goal.loop-digit-preserved
loop-digit-preserved c =
    let m = digit_more c.args.digits.now c.loop-digit.digit-index c.requires.digits c.loop-digit-test.true in
    omega (arith, m.0, m.1)
