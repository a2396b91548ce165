use Rattle.std.proofs.Common.{rules}
use Rattle.pb_accept.proofs.load.load.Goals as goal

pub returns-in-Ok-verify-clause-loaded : goal.returns-in-Ok-verify-clause-loaded
returns-in-Ok-verify-clause-loaded c = search rules

pub returns-in-Ok-verify-clause-writable : goal.returns-in-Ok-verify-clause-writable
returns-in-Ok-verify-clause-writable c = search rules

pub returns-in-Err-verify-clause-fault : goal.returns-in-Err-verify-clause-fault
returns-in-Err-verify-clause-fault c = search rules
