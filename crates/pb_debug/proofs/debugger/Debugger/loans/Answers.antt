use Rattle.std.proofs.Common.{ap, ◌∙◌}
use Rattle.pb_banker.specs.Lenders.{lender_state, lending_by}
use Rattle.pb_debug.specs.Value.{Debugging}
use Rattle.pb_debug.proofs.ResourceTexts.{bank_here}
use Rattle.pb_debug.proofs.debugger.Debugger.loans.Goals as goal

pub returns-clause-shown : goal.returns-clause-shown
returns-clause-shown c =
    ap lender_state c.lender.ensures.bank ∙ bank_here c.self.inside c.self.invariant c.args.self.now c.self.view_is

pub returns-clause-lending : goal.returns-clause-lending
returns-clause-lending c =
    ap lending_by c.lender.ensures.bank
    ∙ (c.self.invariant.walks.stands.machine.lends ∙ ap (λ (d : Debugging). d.lending) c.self.view_is)
