use Rattle.pb_codegen.proofs.VerifiedPrograms.{annotated_code}
use Rattle.pb_codegen.proofs.laws.generated_code_is_verified.Goals as goal

pub returns : goal.returns
returns c = annotated_code
