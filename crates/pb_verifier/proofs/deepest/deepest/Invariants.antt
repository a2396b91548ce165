use Rattle.pb_code.specs.View.{process_view}
use Rattle.pb_verifier.proofs.EndTables.{IsBestBefore}
use Rattle.pb_verifier.proofs.deepest.deepest.Given as goal

abbrev pub invariant-loop-place : goal.invariant-loop-place
invariant-loop-place l = IsBestBefore (process_view l.code) l.depths l.arm l.place l.best
