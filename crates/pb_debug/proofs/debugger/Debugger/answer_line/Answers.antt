use Rattle.std.proofs.Common.{rules}
use Rattle.pb_debug.proofs.debugger.Debugger.answer_line.Goals as goal

pub returns-in-Ok-clause-told : goal.returns-in-Ok-clause-told
returns-in-Ok-clause-told g c = search rules fits 100
