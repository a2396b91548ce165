use Rattle.pb_banker.proofs.Capitals.{more_capital_allows_more}
use Rattle.pb_banker.proofs.laws.more_capital_allows_more.Goals as goal

pub returns : goal.returns
returns c = more_capital_allows_more
