use Rattle.std.proofs.Common.{◌≡◌, map, take}
use Rattle.pb_names.proofs.declared.Declared.processes.Given as goal

abbrev pub invariant-loop-process : goal.invariant-loop-process
invariant-loop-process g l = map (λ text. text.now) l.texts.items ≡ map (λ x. x.name.text.items) (take l.process-index l.process-items)
