use Rattle.std.proofs.Common.{rules}
use Rattle.pb_banker.proofs.bank.Bank.cash.Goals as goal

pub returns : goal.returns
returns c = search rules fits 100
