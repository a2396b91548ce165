use Rattle.pb_code.specs.View.{process_view}
use Rattle.pb_code.proofs.ListElements.{AlikeBelow}
use Rattle.pb_code.proofs.same.same_instrs.Given as goal

abbrev pub invariant-loop-i : goal.invariant-loop-i
invariant-loop-i l = AlikeBelow (process_view l.code).instrs (process_view l.other).instrs l.i
