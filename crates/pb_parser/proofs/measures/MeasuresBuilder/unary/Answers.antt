use Rattle.pb_parser.proofs.measures.MeasuresBuilder.unary.Goals as goal

pub returns-clause-made : goal.returns-clause-made
returns-clause-made c = λ e h. c.under_node.ensures _ _ h
