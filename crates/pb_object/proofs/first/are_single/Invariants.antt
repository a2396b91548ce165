use Rattle.pb_object.specs.Formats.{IsSingle}
use Rattle.pb_code.specs.View.{process_view}
use Rattle.pb_code.proofs.ListElements.{EachBelow}
use Rattle.pb_object.proofs.first.are_single.Given as goal

abbrev pub invariant-loop-i : goal.invariant-loop-i
invariant-loop-i l = EachBelow (process_view l.code).instrs l.i (λ _ i. IsSingle i)
