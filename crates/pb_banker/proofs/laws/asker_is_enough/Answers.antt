use Rattle.pb_banker.proofs.AskerLaws.{asker_is_enough}
use Rattle.pb_banker.proofs.laws.asker_is_enough.Goals as goal

pub returns : goal.returns
returns c = asker_is_enough
