use Rattle.std.proofs.Common.{◌≡◌, take}
use Rattle.pb_plan.specs.Nests.{asks}
use Rattle.pb_plan.proofs.nests.asks.Given as goal

abbrev pub invariant-loop-i : goal.invariant-loop-i
invariant-loop-i l = l.found ≡ asks l.resource (take l.i l.bundle)
