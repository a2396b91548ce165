use Rattle.std.proofs.Common.{arith}
use Rattle.std.proofs.lemmas.Grind.{common_steps}
use Rattle.pb_object.proofs.line_reader.resource.Goals as goal

pub returns-then-not-is_name : goal.returns-then-not-is_name
returns-then-not-is_name c = grind (arith, common_steps)

pub returns-in-Malformed : goal.returns-in-Malformed
returns-in-Malformed c = grind (arith, common_steps)

pub returns-in-Beyond : goal.returns-in-Beyond
returns-in-Beyond c = grind (arith, common_steps)

pub returns-in_ok-name-in-Read : goal.returns-in_ok-name-in-Read
returns-in_ok-name-in-Read c = grind (arith, common_steps)

pub returns-in_default : goal.returns-in_default
returns-in_default c = grind (arith, common_steps)
