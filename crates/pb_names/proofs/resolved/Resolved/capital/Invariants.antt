use Rattle.std.proofs.Common.{◌≡◌, take}
use Rattle.pb_names.proofs.Capitals.{capitals}
use Rattle.pb_names.proofs.resolved.Resolved.capital.Given as goal

abbrev pub invariant-loop-resource : goal.invariant-loop-resource
invariant-loop-resource g l = l.amounts.items ≡ capitals (take l.resource-index l.resource-items)
