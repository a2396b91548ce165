use Rattle.std.proofs.Common.{arith}
use Rattle.std.proofs.lemmas.Grind.{common_steps}
use Rattle.pb_generator.proofs.arms.arms_of.Goals as goal

pub returns-in_err-add_arms_in : goal.returns-in_err-add_arms_in
returns-in_err-add_arms_in g c = grind (arith, common_steps)
