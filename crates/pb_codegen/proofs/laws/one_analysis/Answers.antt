use Rattle.pb_codegen.proofs.TextOneCode.{one_analysis}
use Rattle.pb_codegen.proofs.laws.one_analysis.Goals as goal

pub returns : goal.returns
returns c = one_analysis
