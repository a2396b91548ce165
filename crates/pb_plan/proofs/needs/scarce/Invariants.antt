use Rattle.std.proofs.Common.{◌≡◌}
use Rattle.pb_plan.specs.Needs.{scarce_below}
use Rattle.pb_plan.proofs.needs.scarce.Given as goal

abbrev pub invariant-loop-r : goal.invariant-loop-r
invariant-loop-r l = l.found.items ≡ scarce_below l.claims l.capital l.r
