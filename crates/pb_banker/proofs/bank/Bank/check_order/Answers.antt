use Rattle.std.proofs.Common.{subst}
use Rattle.pb_banker.specs.Jobs.{BankValue}
use Rattle.pb_banker.specs.Orders.{SaysOfOrder}
use Rattle.pb_banker.proofs.bank.Bank.check_order.Goals as goal

pub returns : goal.returns
returns c =
    subst (λ (v : BankValue). SaysOfOrder v.state v.used c.args.order.now c.check_order.result) c.self.view_is c.check_order.ensures
