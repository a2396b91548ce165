use Rattle.std.proofs.Common.{arith}
use Rattle.std.proofs.lemmas.Grind.{common_steps}
use Rattle.pb_draw_picture.proofs.svg.put_waits.Goals as goal

pub loop-i-preserved : goal.loop-i-preserved
loop-i-preserved c = grind (arith, common_steps) steps 400000

pub returns : goal.returns
returns c = grind (arith, common_steps) steps 400000
