use Rattle.pb_object.proofs.instr_reader.plain.Goals as goal

pub comparison-requires : goal.comparison-requires
comparison-requires c = search
