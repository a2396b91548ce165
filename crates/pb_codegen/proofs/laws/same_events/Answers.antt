use Rattle.pb_codegen.proofs.SimulationBack.{implements}
use Rattle.pb_codegen.proofs.laws.same_events.Goals as goal

pub returns : goal.returns
returns c = implements
