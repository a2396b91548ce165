use Rattle.std.proofs.Common.{take, sym}
use Rattle.pb_banker.proofs.Seats.{found_least}
use Rattle.pb_banker.proofs.TableCells.{processes_of}
use Rattle.pb_c_bank.proofs.exports.pb_bank_order.Goals as goal

pub returns : goal.returns
returns c = (
  sym (processes_of c.args.bank.now.accounts c.requires.sound),
  found_least c.args.bank.now.accounts (take c.args.bank.now.accounts.processes c.args.bank.now.order, c.requires.finishes)
      c.search-found.result.count c.search-found.result.order c.search-found.ensures.count c.search-found.ensures.finished
      c.search-found.ensures.unfinished,
)
