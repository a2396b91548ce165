use Rattle.std.proofs.Common.{◌≡◌, take}
use Rattle.pb_plan.specs.Needs.{least_capital}
use Rattle.pb_plan.proofs.needs.least_capital.Given as goal

abbrev pub invariant-loop-p : goal.invariant-loop-p
invariant-loop-p l = l.greatest ≡ least_capital (take l.p l.claims) l.resource
