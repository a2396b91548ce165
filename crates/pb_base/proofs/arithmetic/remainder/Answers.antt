use Rattle.std.proofs.Common.{rules}
use Rattle.pb_base.proofs.arithmetic.remainder.Goals as goal
use Rattle.pb_base.specs.Arithmetic.{apply}

pub returns : goal.returns
unfolding apply
returns c = search rules
