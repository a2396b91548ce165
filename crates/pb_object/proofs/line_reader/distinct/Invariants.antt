use Rattle.std.proofs.Common.{◌≡◌, map, take, drop, []}
use Rattle.pb_object.specs.Words.{are_new}
use Rattle.pb_object.proofs.line_reader.distinct.Given as goal

abbrev pub invariant-loop-word : goal.invariant-loop-word
invariant-loop-word l = record {
  same : are_new [] (map (λ w. w.now) l.words) ≡ are_new (map (λ n. n.items) l.names.items) (map (λ w. w.now) (drop l.word-index l.words));
  copied : map (λ n. n.items) l.names.items ≡ map (λ w. w.now) (take l.word-index l.words);
}
