use Rattle.std.proofs.Common.{◌<◌, take, arith, ap}
use Rattle.pb_base.specs.Banker.{BankerState, processes, without_loans}
use Rattle.pb_banker.specs.Accounts.{state_of}
use Rattle.pb_banker.proofs.KeptOrders.{Finishes-without_loans, Finishes-of}
use Rattle.pb_banker.proofs.KeptSlots.{kept_lent}
use Rattle.pb_banker.proofs.TableCells.{processes_of}
use Rattle.pb_c_bank.specs.Banks.{flags}
use Rattle.pb_c_bank.proofs.exports.pb_bank_drop_all.Goals as goal

pub returns-clause-bank : goal.returns-clause-bank
returns-clause-bank c =
    let n = processes_of c.args.bank.now.accounts c.requires.sound in
    let l = c.if-not-has_job.ensures.row in
    let lp : c.args.job < processes (state_of c.args.bank.now.accounts) = omega (arith, n, l) in
    kept_lent c.args.bank.now.accounts c.args.bank.now.order (flags c.args.bank.now.jobs) c.requires
    c.take_back_all.new.self c.args.bank.now.order c.take_back_all.ensures.sound
    (ap (λ (s : BankerState). s.claims) c.take_back_all.ensures.state)
    (ap (λ (s : BankerState). s.capital) c.take_back_all.ensures.state)
    (Finishes-of c.take_back_all.new.self (without_loans (state_of c.args.bank.now.accounts) c.args.job)
    c.args.bank.now.accounts.processes c.args.bank.now.order
    c.take_back_all.ensures.state c.take_back_all.ensures.processes
    (Finishes-without_loans (state_of c.args.bank.now.accounts) c.args.job (take c.args.bank.now.accounts.processes c.args.bank.now.order)
    c.requires.sound.well_formed lp c.requires.finishes))
