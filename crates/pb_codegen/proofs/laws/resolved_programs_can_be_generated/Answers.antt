use Rattle.pb_codegen.proofs.VerifiedProcesses.{generatable}
use Rattle.pb_codegen.proofs.laws.resolved_programs_can_be_generated.Goals as goal

pub returns : goal.returns
returns c = generatable
