use Rattle.pb_parser.proofs.measures.MeasuresBuilder.binary.Goals as goal

pub returns-clause-made : goal.returns-clause-made
returns-clause-made c = λ a b h k. c.under_node.ensures _ _ (c.beside.ensures _ _ _ _ h k)
