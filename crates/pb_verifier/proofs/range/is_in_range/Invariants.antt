use Rattle.pb_verifier.specs.Faults.{UsesWhatIsThere}
use Rattle.pb_verifier.specs.Given.{instrs_of}
use Rattle.pb_code.proofs.ListElements.{EachBelow}
use Rattle.pb_verifier.proofs.range.is_in_range.Given as goal

abbrev pub invariant-loop-place : goal.invariant-loop-place
invariant-loop-place l = EachBelow (instrs_of l.code) l.place (λ _ i. UsesWhatIsThere l.code.integers l.resources i)
