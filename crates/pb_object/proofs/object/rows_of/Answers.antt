use Rattle.std.proofs.Common.{rules}
use Rattle.pb_object.proofs.object.rows_of.Goals as goal

pub returns-in-Ok-clause-rows : goal.returns-in-Ok-clause-rows
returns-in-Ok-clause-rows c = search rules fits 100

pub returns-in-Err-Fault-Malformed-clause-rows : goal.returns-in-Err-Fault-Malformed-clause-rows
returns-in-Err-Fault-Malformed-clause-rows c = search rules fits 100

pub returns-in-Err-Fault-Beyond-clause-rows : goal.returns-in-Err-Fault-Beyond-clause-rows
returns-in-Err-Fault-Beyond-clause-rows c = search rules fits 100
