use Rattle.std.proofs.Common.{rules}
use Rattle.pb_debug.proofs.debugger.Debugger.settle.Goals as goal

pub returns-in-NotEnabled-clause-tries : goal.returns-in-NotEnabled-clause-tries
returns-in-NotEnabled-clause-tries c = search rules fits 100
