use Rattle.std.proofs.Common.{map}
use Rattle.pb_names.specs.Index.{IsLinked}
use Rattle.pb_names.proofs.lookups.index.Given as goal

abbrev pub invariant-loop-i : goal.invariant-loop-i
invariant-loop-i g l = IsLinked (map (λ text. text.now) l.texts.items) l.greatest l.i l.first_of.items l.next_of.items
