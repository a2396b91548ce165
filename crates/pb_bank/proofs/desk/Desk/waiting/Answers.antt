use Rattle.std.proofs.Common.{subst}
use Rattle.pb_bank.specs.Desks.{DeskValue, IsQueueOf, NoneIsAllowed}
use Rattle.pb_bank.proofs.desk.Desk.waiting.Goals as goal

pub returns-clause-queue : goal.returns-clause-queue
returns-clause-queue c = subst (λ (d : DeskValue). IsQueueOf d.bank d.wishes) c.self.view_is c.self.invariant.wishes

pub returns-clause-waits : goal.returns-clause-waits
returns-clause-waits c = subst (λ (d : DeskValue). NoneIsAllowed d.bank.state d.wishes) c.self.view_is c.self.invariant.waits
