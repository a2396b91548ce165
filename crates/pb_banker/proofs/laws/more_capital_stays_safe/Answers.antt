use Rattle.pb_banker.proofs.Capitals.{more_capital_stays_safe}
use Rattle.pb_banker.proofs.laws.more_capital_stays_safe.Goals as goal

pub returns : goal.returns
returns c = more_capital_stays_safe
