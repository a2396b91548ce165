use Rattle.std.proofs.Common.{◌≡◌, map, take}
use Rattle.pb_resolver.proofs.resolver.copy_texts.Given as goal

abbrev pub invariant-loop-name : goal.invariant-loop-name
invariant-loop-name g l = map (λ copy. copy.items) l.copies.items ≡ map (λ x. x.text.items) (take l.name-index l.name-items)
