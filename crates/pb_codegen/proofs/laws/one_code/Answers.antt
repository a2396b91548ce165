use Rattle.pb_codegen.proofs.TextOneCode.{one_code}
use Rattle.pb_codegen.proofs.laws.one_code.Goals as goal

pub returns : goal.returns
returns c = one_code
