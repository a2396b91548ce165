use Rattle.pb_plan.proofs.OrderedLaw.{orders_of_scarce_prevent}
use Rattle.pb_plan.proofs.laws.orders_of_scarce_prevent_deadlocks.Goals as goal

pub returns : goal.returns
returns c = orders_of_scarce_prevent
