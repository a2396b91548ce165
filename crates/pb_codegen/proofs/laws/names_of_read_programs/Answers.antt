use Rattle.pb_codegen.proofs.TextForms.{read_program_formed}
use Rattle.pb_codegen.proofs.laws.names_of_read_programs.Goals as goal

pub returns : goal.returns
returns c = read_program_formed
