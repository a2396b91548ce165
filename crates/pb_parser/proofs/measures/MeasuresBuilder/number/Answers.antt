use Rattle.pb_parser.proofs.measures.MeasuresBuilder.number.Goals as goal

pub returns : goal.returns
returns c = search
