use Rattle.std.proofs.Common.{take, subst}
use Rattle.pb_base.specs.Banker.{IsSafe}
use Rattle.pb_banker.specs.Jobs.{BankValue}
use Rattle.pb_banker.proofs.bank.Bank.slots.Goals as goal

pub returns-clause-safe : goal.returns-clause-safe
returns-clause-safe c =
    subst (λ (v : BankValue). IsSafe v.state) c.self.view_is
    (take c.self.inside.accounts.processes c.self.inside.order, c.self.invariant.finishes)
