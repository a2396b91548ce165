use Rattle.pb_plan.proofs.Columns.{IsFound}
use Rattle.pb_plan.proofs.needs.bottleneck.Given as goal

abbrev pub invariant-loop-r : goal.invariant-loop-r
invariant-loop-r l = IsFound l.claims l.capital l.r l.most l.found
