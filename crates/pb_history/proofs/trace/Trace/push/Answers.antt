use Rattle.std.proofs.Common.{rules}
use Rattle.pb_history.proofs.trace.Trace.push.Goals as goal

pub returns-in-Some-clause-ok : goal.returns-in-Some-clause-ok
returns-in-Some-clause-ok c = search rules fits 100
