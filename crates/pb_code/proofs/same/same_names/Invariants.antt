use Rattle.std.proofs.Common.{map}
use Rattle.pb_code.proofs.ListElements.{AlikeBelow}
use Rattle.pb_code.proofs.same.same_names.Given as goal

abbrev pub invariant-loop-i : goal.invariant-loop-i
invariant-loop-i l = AlikeBelow (map (λ name. name.items) l.names) (map (λ name. name.items) l.others) l.i
