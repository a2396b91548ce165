use Rattle.std.proofs.Common.{◌<◌}
use Rattle.pb_code.specs.View.{code_view}
use Rattle.pb_picks.specs.PickLines.{SpellsPick}
use Rattle.pb_history.specs.declared.counted.CountedPick.{CountedPick}
use Rattle.pb_picks.proofs.reader.pick_of.Given as goal

abbrev pub invariant-loop-p : goal.invariant-loop-p
invariant-loop-p l = (c : CountedPick) → c.pick.process < l.p → SpellsPick (code_view l.code) l.line c → ⊥
