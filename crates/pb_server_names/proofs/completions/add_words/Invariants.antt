use Rattle.std.proofs.Common.{◌≡◌, ◌++◌, map, take}
use Rattle.serde_json.specs.View.{view}
use Rattle.pb_server_names.specs.Completions.{word_item}
use Rattle.pb_server_names.proofs.completions.add_words.Given as goal

abbrev pub invariant-loop-word : goal.invariant-loop-word
invariant-loop-word l =
    map view l.out.items
    ≡ map view l.initial.out.items ++ map word_item (map (λ word. word.now) (take l.word-index l.words))
