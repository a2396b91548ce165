use Rattle.pb_banker.proofs.AskerLaws.{place_is_enough}
use Rattle.pb_banker.proofs.laws.place_is_enough.Goals as goal

pub returns : goal.returns
returns c = place_is_enough
