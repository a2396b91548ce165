use Rattle.std.proofs.Common.{rules}
use Rattle.pb_history.proofs.trace.Trace.push_many.Goals as goal

pub returns-clause-ok : goal.returns-clause-ok
returns-clause-ok c = search rules fits 100
