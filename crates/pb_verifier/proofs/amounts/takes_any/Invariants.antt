use Rattle.pb_verifier.specs.Amounts.{TakesNone}
use Rattle.pb_verifier.specs.Given.{instrs_of}
use Rattle.pb_code.proofs.ListElements.{EachBelow}
use Rattle.pb_verifier.proofs.amounts.takes_any.Given as goal

abbrev pub invariant-loop-place : goal.invariant-loop-place
invariant-loop-place l = EachBelow (instrs_of l.code) l.place (λ _ i. TakesNone l.resource i)
