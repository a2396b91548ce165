use Rattle.std.proofs.Common.{◌≡◌, map, take}
use Rattle.pb_generator.proofs.names.process_names.Given as goal

abbrev pub invariant-loop-process : goal.invariant-loop-process
invariant-loop-process g l = map (λ v. v.items) l.copy.items ≡ map (λ v. v.name.items) (take l.process-index l.process-items)
