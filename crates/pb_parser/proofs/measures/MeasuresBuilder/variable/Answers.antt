use Rattle.pb_parser.proofs.measures.MeasuresBuilder.variable.Goals as goal
use Rattle.pb_tree.proofs.Views.{expr_views}

pub returns-clause-made : goal.returns-clause-made
returns-clause-made c = search expr_views
