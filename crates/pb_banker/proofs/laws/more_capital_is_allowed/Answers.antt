use Rattle.pb_banker.proofs.Capitals.{more_capital_is_allowed}
use Rattle.pb_banker.proofs.laws.more_capital_is_allowed.Goals as goal

pub returns : goal.returns
returns c = more_capital_is_allowed
