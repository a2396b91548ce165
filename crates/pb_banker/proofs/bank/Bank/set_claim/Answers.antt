use Rattle.std.proofs.Common.{ap, sym, ◌∙◌, subst}
use Rattle.pb_base.specs.Banker.{BankerState, claim, resources}
use Rattle.pb_banker.specs.Accounts.{state_of}
use Rattle.pb_banker.specs.Claims.{SaysOfClaim}
use Rattle.pb_banker.specs.Jobs.{BankValue, IsUsed}
use Rattle.pb_banker.proofs.ChangedClaims.{claimed_other, claimed_resources, kept_claimed}
use Rattle.pb_banker.proofs.bank.Bank.set_claim.Goals as goal

pub invariant_of-self : goal.invariant_of-self
invariant_of-self c =
    kept_claimed c.self.inside.accounts c.self.inside.order c.self.inside.used c.self.invariant c.args.p
    (subst (λ (v : BankValue). IsUsed v.used c.args.p) (sym c.self.view_is) c.requires.job)
    c.change_claim.new.accounts c.change_claim.new.order c.change_claim.ensures.sound c.change_claim.ensures.processes
    (ap (λ (s : BankerState). resources s) c.change_claim.ensures.state
    ∙ claimed_resources (state_of c.self.inside.accounts) c.args.p c.args.r c.args.amount c.change_claim.result)
    (λ q j ne.
    ap (λ (s : BankerState). claim s q j) c.change_claim.ensures.state
    ∙ claimed_other (state_of c.self.inside.accounts) c.args.p c.args.r c.args.amount c.change_claim.result q j ne)
    c.change_claim.ensures.finishes

pub returns-clause-said : goal.returns-clause-said
returns-clause-said c =
    subst (λ (v : BankValue). SaysOfClaim v.state c.args.p c.args.r c.args.amount c.change_claim.result) c.self.view_is c.change_claim.ensures.said
