use Rattle.std.proofs.Common.{take}
use Rattle.pb_banker.specs.Accounts.{state_of}
use Rattle.pb_banker.proofs.Walked.{Walked}
use Rattle.pb_banker.proofs.accounts.Accounts.check_order.Given as goal

abbrev pub invariant-loop-k : goal.invariant-loop-k
invariant-loop-k l = Walked (state_of l.self) l.used (take l.k l.order) l.waiting l.available
