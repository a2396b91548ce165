use Rattle.std.proofs.Common.{◌≡◌, ◌++◌, take}
use Rattle.std.specs.List.{flat_map}
use Rattle.std.specs.Prelude.{string_bytes}
use Rattle.pb_findings.specs.Strings.{further, words_text}
use Rattle.pb_findings.proofs.strings.put_further_strings.Given as goal

abbrev pub invariant-loop-words : goal.invariant-loop-words
invariant-loop-words l =
    l.out.items ≡ l.fn.out.items ++ flat_map (further (λ words. words_text (string_bytes words))) (take l.words-index l.strings)
