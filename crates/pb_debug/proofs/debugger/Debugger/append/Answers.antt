use Rattle.std.proofs.Common.{sym, subst}
use Rattle.pb_debug.specs.Value.{IsPosition}
use Rattle.pb_debug.proofs.debugger.Debugger.append.Goals as goal

pub returns-in_err-settle-clause-placed : goal.returns-in_err-settle-clause-placed
returns-in_err-settle-clause-placed c = subst IsPosition (sym c.in_err-settle.ensures.unchanged) c.can_append.ensures.placed
