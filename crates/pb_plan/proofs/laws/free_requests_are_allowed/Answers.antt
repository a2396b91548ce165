use Rattle.pb_plan.proofs.Free.{free_allowed}
use Rattle.pb_plan.proofs.laws.free_requests_are_allowed.Goals as goal

pub returns : goal.returns
returns c = free_allowed
