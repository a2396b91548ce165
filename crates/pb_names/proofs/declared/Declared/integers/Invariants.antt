use Rattle.std.proofs.Common.{◌≡◌, map, take}
use Rattle.pb_names.proofs.declared.Declared.integers.Given as goal

abbrev pub invariant-loop-name : goal.invariant-loop-name
invariant-loop-name g l = map (λ text. text.now) l.texts.items ≡ map (λ x. x.text.items) (take l.name-index l.name-items)
