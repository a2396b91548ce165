use Rattle.pb_parser.proofs.MeasureSteps.{process_measured}
use Rattle.pb_parser.proofs.measures.MeasuresBuilder.add_process.Goals as goal

pub returns-clause-made : goal.returns-clause-made
returns-clause-made c = λ xs a h i before k. process_measured _ before _ (c.beside.ensures _ _ _ _ k (c.with_node.ensures _ _ i))
