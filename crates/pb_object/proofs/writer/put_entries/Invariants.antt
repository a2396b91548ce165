use Rattle.std.proofs.Common.{◌≡◌, ◌++◌, take, codes}
use Rattle.std.specs.List.{flat_map}
use Rattle.pb_object.specs.Lines.{line_text}
use Rattle.pb_object.specs.Objects.{counted_words}
use Rattle.pb_object.proofs.writer.put_entries.Given as goal

abbrev pub invariant-loop-entry : goal.invariant-loop-entry
invariant-loop-entry l = l.out.items ≡ l.fn.out.items ++ flat_map (λ e. line_text (counted_words (codes "arm") e)) (take l.entry-index l.entries)
