use Rattle.std.proofs.Common.{ℕ, take, sym, subst}
use Rattle.pb_base.specs.Banker.{processes, IsLeastFirst}
use Rattle.pb_banker.specs.Accounts.{state_of}
use Rattle.pb_banker.specs.Jobs.{BankValue}
use Rattle.pb_banker.proofs.Seats.{found_least}
use Rattle.pb_banker.proofs.TableCells.{processes_of}
use Rattle.pb_banker.proofs.bank.Bank.order.Goals as goal

pub returns : goal.returns
returns c =
    subst (λ (v : BankValue). IsLeastFirst v.state (take (processes v.state) c.search-found.result.order)) c.self.view_is
    (subst (λ (n : ℕ). IsLeastFirst (state_of c.self.inside.accounts) (take n c.search-found.result.order))
    (sym (processes_of c.self.inside.accounts c.self.invariant.sound))
    (found_least c.self.inside.accounts (take c.self.inside.accounts.processes c.self.inside.order, c.self.invariant.finishes)
    c.search-found.result.count c.search-found.result.order c.search-found.ensures.count c.search-found.ensures.finished
    c.search-found.ensures.unfinished))
