use Rattle.pb_codegen.proofs.VerifiedPrograms.{code_behaves}
use Rattle.pb_codegen.proofs.laws.generated_code_is_well_behaved.Goals as goal

pub returns : goal.returns
returns c = code_behaves
