use Rattle.pb_plan.proofs.Granted.{all_granted, free_granted}
use Rattle.pb_plan.proofs.laws.free_requests_are_granted.Goals as goal

pub returns-clause-free : goal.returns-clause-free
returns-clause-free c = free_granted

pub returns-clause-all : goal.returns-clause-all
returns-clause-all c = all_granted
