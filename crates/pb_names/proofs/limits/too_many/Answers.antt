use Rattle.std.proofs.Common.{arith}
use Rattle.std.proofs.lemmas.Grind.{common_steps}
use Rattle.pb_names.proofs.limits.too_many.Goals as goal

pub returns-then-most-gt-MAX_FORK-clause-passed : goal.returns-then-most-gt-MAX_FORK-clause-passed
returns-then-most-gt-MAX_FORK-clause-passed g c = grind (arith, common_steps) steps 400000

pub returns-then-len-gt-MAX_RESOURCES-clause-passed : goal.returns-then-len-gt-MAX_RESOURCES-clause-passed
returns-then-len-gt-MAX_RESOURCES-clause-passed g c = grind (arith, common_steps) steps 400000

pub returns-then-most-gt-MAX_INTEGERS-clause-passed : goal.returns-then-most-gt-MAX_INTEGERS-clause-passed
returns-then-most-gt-MAX_INTEGERS-clause-passed g c = grind (arith, common_steps) steps 400000

pub returns-then-most-gt-MAX_ARMS-clause-passed : goal.returns-then-most-gt-MAX_ARMS-clause-passed
returns-then-most-gt-MAX_ARMS-clause-passed g c = grind (arith, common_steps) steps 400000

pub returns-clause-within : goal.returns-clause-within
returns-clause-within g c = grind (arith, common_steps) steps 400000
