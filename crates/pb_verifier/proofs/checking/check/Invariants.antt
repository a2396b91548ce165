use Rattle.std.proofs.Common.{map}
use Rattle.pb_code.specs.View.{code_view}
use Rattle.pb_verifier.proofs.ProcessFaults.{IsFoundBefore}
use Rattle.pb_verifier.proofs.checking.check.Given as goal

abbrev pub invariant-loop-p : goal.invariant-loop-p
invariant-loop-p l = IsFoundBefore (code_view l.code) l.p l.found (map (λ row. row.items) l.depths.items)
