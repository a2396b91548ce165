use Rattle.std.proofs.Common.{ap, ◌∙◌}
use Rattle.pb_base.specs.Banker.{BankerState}
use Rattle.pb_banker.specs.Accounts.{state_of}
use Rattle.pb_banker.proofs.KeptSlots.{kept_lent, after_claims, after_capital}
use Rattle.pb_banker.proofs.bank.Bank.ask.Goals as goal

pub invariant_of-self : goal.invariant_of-self
invariant_of-self c =
    kept_lent c.self.inside.accounts c.self.inside.order c.self.inside.used c.self.invariant
    c.decide_by_asker.new.accounts c.decide_by_asker.new.order c.decide_by_asker.ensures.sound
    (ap (λ (s : BankerState). s.claims) c.decide_by_asker.ensures.state
    ∙ after_claims (state_of c.self.inside.accounts) c.args.p c.args.bundle.now c.decide_by_asker.result)
    (ap (λ (s : BankerState). s.capital) c.decide_by_asker.ensures.state
    ∙ after_capital (state_of c.self.inside.accounts) c.args.p c.args.bundle.now c.decide_by_asker.result)
    c.decide_by_asker.ensures.finishes
