use Rattle.std.proofs.Common.{◌≡◌, ◌++◌, ◌∷◌, []}
use Rattle.pb_page.specs.Texts.{texts}
use Rattle.pb_page.specs.Parts.{parts_below}
use Rattle.std.specs.Fmt.{decimal}
use Rattle.pb_banker.specs.Lenders.{lender_state}
use Rattle.pb_base.specs.Banker.{loan}
use Rattle.pb_page.proofs.state.add_loans.Given as goal

abbrev pub invariant-loop-r : goal.invariant-loop-r
invariant-loop-r l = texts l.entries.items ≡ (texts l.initial.entries.items ++ parts_below (λ r. decimal (loan (lender_state l.bank) l.p r) ∷ []) l.r)
