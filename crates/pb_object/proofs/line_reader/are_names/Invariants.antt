use Rattle.std.proofs.Common.{◌≡◌, map, drop}
use Rattle.std.specs.List.{list_all}
use Rattle.pb_code.specs.Names.{is_name}
use Rattle.pb_object.proofs.line_reader.are_names.Given as goal

abbrev pub invariant-loop-word : goal.invariant-loop-word
invariant-loop-word l = list_all is_name (map (λ w. w.now) l.words) ≡ list_all is_name (map (λ w. w.now) (drop l.word-index l.words))
