use Rattle.std.proofs.Common.{rules}
use Rattle.pb_accept.specs.ReplayLines.{some_fault, no_fault}
use Rattle.pb_accept.proofs.replay.status_at.Goals as goal

pub returns-else-has_fault-clause-status : goal.returns-else-has_fault-clause-status
returns-else-has_fault-clause-status c = search (rules, some_fault, no_fault) fits 100
