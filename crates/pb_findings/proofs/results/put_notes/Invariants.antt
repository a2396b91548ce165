use Rattle.std.proofs.Common.{◌≡◌, ◌++◌, take}
use Rattle.std.specs.List.{flat_map}
use Rattle.std.specs.Prelude.{string_bytes}
use Rattle.pb_findings.specs.Sarif.{note_sarif}
use Rattle.pb_findings.proofs.results.put_notes.Given as goal

abbrev pub invariant-loop-words : goal.invariant-loop-words
invariant-loop-words l = l.out.items ≡ l.fn.out.items ++ flat_map (λ words. note_sarif l.kind (string_bytes words)) (take l.words-index l.notes)
