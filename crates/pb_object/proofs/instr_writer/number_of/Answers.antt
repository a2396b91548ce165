use Rattle.pb_object.proofs.instr_writer.number_of.Goals as goal

pub returns-in-Some : goal.returns-in-Some
returns-in-Some c = search depth 0
