use Rattle.std.proofs.Common.{ap, ◌∙◌}
use Rattle.pb_base.specs.Banker.{BankerState}
use Rattle.pb_banker.specs.Accounts.{state_of}
use Rattle.pb_banker.proofs.KeptSlots.{kept_lent, after_claims, after_capital}
use Rattle.pb_c_bank.specs.Banks.{flags}
use Rattle.pb_c_bank.proofs.Amounts.{bundle_below}
use Rattle.pb_c_bank.proofs.exports.pb_bank_ask.Goals as goal

pub decide_by_asker-answer-requires-clause-below : goal.decide_by_asker-answer-requires-clause-below
decide_by_asker-answer-requires-clause-below c =
    bundle_below c.args.bank.now.accounts c.requires.sound c.args.amounts.now c.bundle_of-bundle.result
    c.bundle_of-bundle.ensures c.if-not-is_request.ensures.each

pub returns-clause-bank : goal.returns-clause-bank
returns-clause-bank c =
    kept_lent c.args.bank.now.accounts c.args.bank.now.order (flags c.args.bank.now.jobs) c.requires
    c.decide_by_asker-answer.new.accounts c.decide_by_asker-answer.new.order c.decide_by_asker-answer.ensures.sound
    (ap (λ (s : BankerState). s.claims) c.decide_by_asker-answer.ensures.state
    ∙ after_claims (state_of c.args.bank.now.accounts) c.args.job c.bundle_of-bundle.result c.decide_by_asker-answer.result)
    (ap (λ (s : BankerState). s.capital) c.decide_by_asker-answer.ensures.state
    ∙ after_capital (state_of c.args.bank.now.accounts) c.args.job c.bundle_of-bundle.result c.decide_by_asker-answer.result)
    c.decide_by_asker-answer.ensures.finishes
