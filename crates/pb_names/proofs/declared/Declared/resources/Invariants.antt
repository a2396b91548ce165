use Rattle.std.proofs.Common.{◌≡◌, map, take}
use Rattle.pb_names.proofs.declared.Declared.resources.Given as goal

abbrev pub invariant-loop-resource : goal.invariant-loop-resource
invariant-loop-resource g l = map (λ text. text.now) l.texts.items ≡ map (λ x. x.name.text.items) (take l.resource-index l.resource-items)
