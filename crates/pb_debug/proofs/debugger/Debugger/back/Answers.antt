use Rattle.std.proofs.Common.{rules}
use Rattle.pb_debug.proofs.debugger.Debugger.back.Goals as goal

pub returns-clause-moved : goal.returns-clause-moved
returns-clause-moved c = search rules fits 100
