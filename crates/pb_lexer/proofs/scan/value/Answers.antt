use Rattle.std.proofs.Common.{arith}
use Rattle.pb_lexer.proofs.Numbers.{too_large}
use Rattle.pb_lexer.proofs.scan.value.Goals as goal

pub returns-then-number : goal.returns-then-number
returns-then-number c =
    let l = c.loop-digit in
    too_large _ l.number l.digit-index (omega arith) (omega arith) l.invariant.same

pub returns-then-number-gt-MAX_NUMBER : goal.returns-then-number-gt-MAX_NUMBER
returns-then-number-gt-MAX_NUMBER c =
    let l = c.loop-digit in
    too_large _ l.number l.digit-index (omega arith) (omega arith) l.invariant.same
