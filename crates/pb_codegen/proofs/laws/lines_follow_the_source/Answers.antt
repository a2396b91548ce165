use Rattle.pb_codegen.proofs.SimulationLines.{is_followed}
use Rattle.pb_codegen.proofs.laws.lines_follow_the_source.Goals as goal

pub returns : goal.returns
returns c = is_followed
