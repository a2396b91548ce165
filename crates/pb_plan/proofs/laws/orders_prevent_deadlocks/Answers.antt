use Rattle.pb_plan.proofs.OrderedLaw.{orders_prevent}
use Rattle.pb_plan.proofs.laws.orders_prevent_deadlocks.Goals as goal

pub returns : goal.returns
returns c = orders_prevent
