use Rattle.std.proofs.Common.{rules}
use Rattle.pb_machine.proofs.execute.compute_two.Goals as goal

pub returns-in-Err-clause-outcome : goal.returns-in-Err-clause-outcome
returns-in-Err-clause-outcome c = search rules fits 100

pub returns-in-Ok-clause-outcome : goal.returns-in-Ok-clause-outcome
returns-in-Ok-clause-outcome c = search rules fits 100
