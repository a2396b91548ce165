use Rattle.std.proofs.Common.{map, take}
use Rattle.pb_capitals.specs.Changes.{AreChanges, changes_in}
use Rattle.pb_capitals.proofs.reading.changes_of.Given as goal

abbrev pub invariant-loop-word : goal.invariant-loop-word
invariant-loop-word l = AreChanges (map (λ word. word.now) (take l.word-index l.initial.words)) (changes_in l.changes)
