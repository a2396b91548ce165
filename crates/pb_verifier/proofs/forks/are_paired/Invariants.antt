use Rattle.pb_code.specs.View.{process_view}
use Rattle.pb_verifier.specs.Arms.{IsPaired}
use Rattle.pb_verifier.specs.Given.{instrs_of}
use Rattle.pb_code.proofs.ListElements.{EachBelow}
use Rattle.pb_verifier.proofs.forks.are_paired.Given as goal

abbrev pub invariant-loop-place : goal.invariant-loop-place
invariant-loop-place l = EachBelow (instrs_of l.code) l.place (IsPaired (process_view l.code))
