use Rattle.std.proofs.Common.{map}
use Rattle.pb_code.specs.View.{process_view}
use Rattle.pb_code.proofs.ListElements.{AlikeBelow}
use Rattle.pb_code.proofs.same.same_codes.Given as goal

abbrev pub invariant-loop-p : goal.invariant-loop-p
invariant-loop-p l = AlikeBelow (map process_view l.codes) (map process_view l.others) l.p
