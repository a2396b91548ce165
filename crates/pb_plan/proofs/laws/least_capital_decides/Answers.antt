use Rattle.pb_plan.proofs.Columns.{least_decides}
use Rattle.pb_plan.proofs.laws.least_capital_decides.Goals as goal

pub returns : goal.returns
returns c = least_decides
