use Rattle.std.proofs.Common.{◌≡◌, map, take}
use Rattle.pb_generator.proofs.names.resource_names.Given as goal

abbrev pub invariant-loop-resource : goal.invariant-loop-resource
invariant-loop-resource g l = map (λ v. v.items) l.copy.items ≡ map (λ v. v.name.items) (take l.resource-index l.resource-items)
