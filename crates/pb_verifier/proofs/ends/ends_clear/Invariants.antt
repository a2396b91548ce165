use Rattle.pb_verifier.specs.Ends.{IsClearAt}
use Rattle.pb_verifier.specs.Given.{instrs_of}
use Rattle.pb_verifier.specs.Spread.{fact_at}
use Rattle.pb_code.proofs.ListElements.{EachBelow}
use Rattle.pb_verifier.proofs.ends.ends_clear.Given as goal

abbrev pub invariant-loop-place : goal.invariant-loop-place
invariant-loop-place l = EachBelow (instrs_of l.code) l.place (λ p i. IsClearAt i (fact_at l.depths p) (fact_at l.holdings p))
