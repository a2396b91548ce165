use Rattle.std.proofs.Common.{rules}
use Rattle.pb_base.proofs.arithmetic.apply.Goals as goal
use Rattle.pb_base.specs.Arithmetic.{apply}

pub returns-in-Add : goal.returns-in-Add
unfolding apply
returns-in-Add c = search rules
