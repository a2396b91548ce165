use Rattle.pb_code.proofs.ListElements.{AlikeBelow}
use Rattle.pb_code.proofs.same.same_claims.Given as goal

abbrev pub invariant-loop-p : goal.invariant-loop-p
invariant-loop-p l = AlikeBelow l.claims l.other l.p
