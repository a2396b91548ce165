use Rattle.pb_plan.proofs.FreeDeadlocks.{free_capital_prevents}
use Rattle.pb_plan.proofs.laws.free_capital_prevents_deadlocks.Goals as goal

pub returns : goal.returns
returns c = free_capital_prevents
