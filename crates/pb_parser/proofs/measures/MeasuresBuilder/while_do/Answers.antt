use Rattle.pb_parser.proofs.MeasureSteps.{stmt_measured}
use Rattle.pb_parser.proofs.measures.MeasuresBuilder.while_do.Goals as goal

pub returns-clause-made : goal.returns-clause-made
returns-clause-made c = λ e a h i before k. stmt_measured _ before _ (c.beside-2.ensures _ _ _ _ k (c.under_node.ensures _ _ (c.beside.ensures _ _ _ _ h i)))
