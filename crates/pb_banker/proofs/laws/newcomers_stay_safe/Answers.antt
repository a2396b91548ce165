use Rattle.pb_banker.proofs.Newcomers.{newcomers_stay_safe}
use Rattle.pb_banker.proofs.laws.newcomers_stay_safe.Goals as goal

pub returns : goal.returns
returns c = newcomers_stay_safe
