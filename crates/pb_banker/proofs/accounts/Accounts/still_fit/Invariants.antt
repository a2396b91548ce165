use Rattle.std.proofs.Common.{◌<◌, All, take}
use Rattle.pb_banker.specs.Accounts.{state_of}
use Rattle.pb_banker.specs.Askers.{FitBy}
use Rattle.pb_banker.proofs.accounts.Accounts.still_fit.Given as goal

abbrev pub invariant-loop-i : goal.invariant-loop-i
invariant-loop-i l = All (λ pair. 0 < pair.amount → FitBy (state_of l.self) (take l.place l.order) pair.resource) (take l.i l.bundle)
