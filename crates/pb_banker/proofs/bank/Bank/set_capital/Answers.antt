use Rattle.std.proofs.Common.{ap, ◌∙◌, subst}
use Rattle.pb_base.specs.Banker.{BankerState, resources}
use Rattle.pb_banker.specs.Accounts.{state_of}
use Rattle.pb_banker.specs.Changes.{SaysOfCapital}
use Rattle.pb_banker.specs.Jobs.{BankValue}
use Rattle.pb_banker.proofs.Capitals.{changed_claims, changed_resources}
use Rattle.pb_banker.proofs.KeptSlots.{kept_same}
use Rattle.pb_banker.proofs.bank.Bank.set_capital.Goals as goal

pub invariant_of-self : goal.invariant_of-self
invariant_of-self c =
    kept_same c.self.inside.accounts c.self.inside.order c.self.inside.used c.self.invariant
    c.change_capital.new.accounts c.change_capital.new.order c.change_capital.ensures.sound
    (ap (λ (s : BankerState). s.claims) c.change_capital.ensures.state
    ∙ changed_claims (state_of c.self.inside.accounts) c.args.r c.args.amount c.change_capital.result)
    (ap (λ (s : BankerState). resources s) c.change_capital.ensures.state
    ∙ changed_resources (state_of c.self.inside.accounts) c.args.r c.args.amount c.change_capital.result)
    c.change_capital.ensures.finishes

pub returns-clause-said : goal.returns-clause-said
returns-clause-said c =
    subst (λ (v : BankValue). SaysOfCapital v.state c.args.r c.args.amount c.change_capital.result) c.self.view_is c.change_capital.ensures.said
