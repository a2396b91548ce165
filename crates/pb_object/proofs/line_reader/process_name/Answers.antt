use Rattle.std.proofs.Common.{arith}
use Rattle.std.proofs.lemmas.Grind.{common_steps}
use Rattle.pb_object.proofs.line_reader.process_name.Goals as goal

pub returns-then-has_process : goal.returns-then-has_process
returns-then-has_process c = grind (arith, common_steps) steps 400000

pub returns-else-has_process : goal.returns-else-has_process
returns-else-has_process c = grind (arith, common_steps) steps 400000

pub returns-in_default : goal.returns-in_default
returns-in_default c = grind (arith, common_steps)
