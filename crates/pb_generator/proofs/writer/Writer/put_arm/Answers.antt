use Rattle.std.proofs.Common.{arith}
use Rattle.std.proofs.lemmas.Grind.{common_steps}
use Rattle.pb_generator.proofs.writer.Writer.put_arm.Goals as goal

pub returns : goal.returns
returns g c = grind (arith, common_steps)
