use Rattle.std.proofs.Common.{◌≡◌, ◌++◌}
use Rattle.pb_banker.specs.Lenders.{lender_state}
use Rattle.pb_page.specs.Texts.{texts}
use Rattle.pb_page.specs.Parts.{parts_below}
use Rattle.pb_page.specs.States as spec
use Rattle.pb_page.proofs.state.add_all_loans.Given as goal

abbrev pub invariant-loop-p : goal.invariant-loop-p
invariant-loop-p l = texts l.entries.items ≡ (texts l.initial.entries.items ++ parts_below (spec.loans_of (lender_state l.bank)) l.p)
