use Rattle.std.proofs.Common.{rules}
use Rattle.pb_base.proofs.arithmetic.apply_unary.Goals as goal
use Rattle.pb_base.specs.Arithmetic.{apply_unary}

pub returns-in-Not : goal.returns-in-Not
unfolding apply_unary
returns-in-Not c = search rules
