use Rattle.std.proofs.Common.{◌-◌, length, refl}
use Rattle.pb_mends.proofs.Same.{keeps}
use Rattle.pb_mends.proofs.kept.keeps_tokens.Goals as goal

pub returns-then-are_same : goal.returns-then-are_same
returns-then-are_same c = λ same.
    keeps c.args.tokens.now c.args.after.now c.unchanged-number.result c.min-behind.result
    (length c.args.tokens.now - c.min-behind.result) c.unchanged-number.ensures.of_these c.min-behind.ensures refl
    c.if-after-number.false (c.are_same.ensures c.if-are_same.true) (c.are_same-then-are_same.ensures same)
