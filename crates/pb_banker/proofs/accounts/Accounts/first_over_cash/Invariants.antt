use Rattle.std.proofs.Common.{take}
use Rattle.pb_base.specs.Banker.{IsWithinCash}
use Rattle.pb_banker.specs.Accounts.{state_of}
use Rattle.pb_banker.proofs.accounts.Accounts.first_over_cash.Given as goal

abbrev pub invariant-loop-i : goal.invariant-loop-i
invariant-loop-i l = IsWithinCash (state_of l.self) (take l.i l.bundle)
