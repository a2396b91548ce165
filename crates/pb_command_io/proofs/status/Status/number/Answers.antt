use Rattle.pb_command_io.proofs.status.Status.number.Goals as goal

pub returns-in-Limit : goal.returns-in-Limit
returns-in-Limit c = search depth 0

pub returns-in-Fault : goal.returns-in-Fault
returns-in-Fault c = search depth 0
