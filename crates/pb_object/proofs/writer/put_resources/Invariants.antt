use Rattle.std.proofs.Common.{◌≡◌, ◌++◌, take, map, List}
use Rattle.std.specs.List.{flat_map}
use Rattle.pb_object.specs.Lines.{line_text}
use Rattle.pb_object.specs.Objects.{ResourceRow, resource_words}
use Rattle.pb_object.proofs.writer.put_resources.Given as goal

abbrev pub invariant-loop-r : goal.invariant-loop-r
invariant-loop-r l =
    (rows : List ResourceRow) → map (λ r. r.name) rows ≡ map (λ name. name.items) l.names → map (λ r. r.capital) rows ≡ l.capital
    → l.out.items ≡ l.fn.out.items ++ flat_map (λ r. line_text (resource_words r)) (take l.r rows)
