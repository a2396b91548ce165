use Rattle.std.proofs.Common.{take}
use Rattle.pb_base.specs.Banker.{IsWithinClaim}
use Rattle.pb_banker.specs.Accounts.{state_of}
use Rattle.pb_banker.proofs.accounts.Accounts.first_over_claim.Given as goal

abbrev pub invariant-loop-i : goal.invariant-loop-i
invariant-loop-i l = IsWithinClaim (state_of l.self) l.p (take l.i l.bundle)
