use Rattle.std.proofs.Common.{◌<◌, take, arith, ap, refl}
use Rattle.pb_base.specs.Banker.{BankerState, processes, without_loan}
use Rattle.pb_banker.specs.Accounts.{state_of}
use Rattle.pb_banker.proofs.KeptOrders.{Finishes-without_loan, Finishes-of}
use Rattle.pb_banker.proofs.KeptSlots.{kept_lent}
use Rattle.pb_banker.proofs.TableCells.{processes_of}
use Rattle.pb_c_bank.specs.Banks.{flags}
use Rattle.pb_c_bank.proofs.Amounts.{bundle_below, bundle_below_state, bundle_held}
use Rattle.pb_c_bank.proofs.exports.pb_bank_give.Goals as goal

pub take_back-requires-clause-below : goal.take_back-requires-clause-below
take_back-requires-clause-below c =
    bundle_below c.args.bank.now.accounts c.requires.sound c.args.amounts.now c.bundle_of-bundle.result
    c.bundle_of-bundle.ensures c.if-not-is_request.ensures.each

pub take_back-requires-clause-held : goal.take_back-requires-clause-held
take_back-requires-clause-held c =
    bundle_held c.args.bank.now.accounts c.args.job c.args.amounts.now c.bundle_of-bundle.result
    c.bundle_of-bundle.ensures (c.if-not-holds.ensures.0 refl)

pub returns-clause-bank : goal.returns-clause-bank
returns-clause-bank c =
    let n = processes_of c.args.bank.now.accounts c.requires.sound in
    let l = c.if-not-is_request.ensures.row in
    let lp : c.args.job < processes (state_of c.args.bank.now.accounts) = omega (arith, n, l) in
    kept_lent c.args.bank.now.accounts c.args.bank.now.order (flags c.args.bank.now.jobs) c.requires
    c.take_back.new.self c.args.bank.now.order c.take_back.ensures.sound
    (ap (λ (s : BankerState). s.claims) c.take_back.ensures.state)
    (ap (λ (s : BankerState). s.capital) c.take_back.ensures.state)
    (Finishes-of c.take_back.new.self (without_loan (state_of c.args.bank.now.accounts) c.args.job c.bundle_of-bundle.result)
    c.args.bank.now.accounts.processes c.args.bank.now.order
    c.take_back.ensures.state c.take_back.ensures.processes
    (Finishes-without_loan (state_of c.args.bank.now.accounts) c.args.job c.bundle_of-bundle.result
    (take c.args.bank.now.accounts.processes c.args.bank.now.order) c.requires.sound.well_formed lp
    (bundle_below_state c.args.bank.now.accounts c.requires.sound c.args.amounts.now c.bundle_of-bundle.result
    c.bundle_of-bundle.ensures c.if-not-is_request.ensures.each)
    c.requires.finishes))
