use Rattle.pb_parser.proofs.MeasureSteps.{arm_measured}
use Rattle.pb_parser.proofs.measures.MeasuresBuilder.add_arm.Goals as goal

pub returns-clause-made : goal.returns-clause-made
returns-clause-made c = λ a h before k. arm_measured _ before a (c.beside.ensures _ _ _ _ k h)
