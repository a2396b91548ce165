use Rattle.std.proofs.Common.{rules}
use Rattle.pb_debug.proofs.debugger.Debugger.threads.Goals as goal

pub returns-clause-shown : goal.returns-clause-shown
returns-clause-shown c = search rules fits 100
