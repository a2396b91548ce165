use Rattle.std.proofs.Common.{◌≡◌, map, drop}
use Rattle.pb_object.specs.Words.{numbers}
use Rattle.pb_object.proofs.Pairs.{gathered}
use Rattle.pb_object.proofs.line_reader.amounts.Given as goal

abbrev pub invariant-loop-word : goal.invariant-loop-word
invariant-loop-word l =
    numbers 0 1000000 (map (λ w. w.now) l.words) ≡ gathered l.beyond l.amounts.items (numbers 0 1000000 (map (λ w. w.now) (drop l.word-index l.words)))
