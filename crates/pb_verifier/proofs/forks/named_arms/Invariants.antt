use Rattle.pb_code.specs.View.{process_view}
use Rattle.pb_verifier.specs.Arms.{IsMarked}
use Rattle.pb_verifier.proofs.forks.named_arms.Given as goal

abbrev pub invariant-loop-place : goal.invariant-loop-place
invariant-loop-place l = IsMarked (process_view l.code) l.place l.marks
