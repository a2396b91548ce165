use Rattle.pb_object.proofs.FaultLaws.{answer_place}
use Rattle.pb_object.proofs.laws.fault_place.Goals as goal

pub returns : goal.returns
returns c = answer_place
