use Rattle.std.proofs.Common.{◌≡◌, map, take}
use Rattle.pb_generator.proofs.names.copy_names.Given as goal

abbrev pub invariant-loop-name : goal.invariant-loop-name
invariant-loop-name g l = map (λ v. v.items) l.copy.items ≡ map (λ v. v.items) (take l.name-index l.name-items)
