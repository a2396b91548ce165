use Rattle.std.proofs.Common.{◌<◌, false, get_or, arith, subst}
use Rattle.pb_base.specs.Banker.{processes}
use Rattle.pb_banker.specs.Accounts.{state_of}
use Rattle.pb_banker.specs.Jobs.{BankValue}
use Rattle.pb_banker.proofs.TableCells.{processes_of}
use Rattle.std.proofs.lemmas.Bool.{OnTrue_from}
use Rattle.pb_banker.proofs.bank.Bank.has_job.Goals as goal

pub returns-clause-row : goal.returns-clause-row
returns-clause-row c =
    OnTrue_from (get_or c.self.inside.used c.args.p false) (c.args.p < processes c.args.self.now.state)
    (λ u.
    subst (λ (v : BankValue). c.args.p < processes v.state) c.self.view_is
    (let n = processes_of c.self.inside.accounts c.self.invariant.sound in
    let l = c.self.invariant.rows c.args.p u in
    let goal : c.args.p < processes (state_of c.self.inside.accounts) = omega (arith, n, l) in
    goal))
