use Rattle.std.proofs.Common.{◌≡◌, ◌++◌, ◌∙◌, ap, sym, map, ℕ, length, List, codes, arith}
use Rattle.std.specs.List.{flat_map}
use Rattle.std.proofs.lemmas.List.{length-map}
use Rattle.pb_object.specs.Lines.{line_text}
use Rattle.pb_object.specs.Objects.{ResourceRow, resource_words, counted_words}
use Rattle.pb_code.specs.Names.{Word}
use Rattle.pb_object.proofs.WrittenRows.{in_four}
use Rattle.pb_object.proofs.writer.put_opening.Goals as goal

pub returns : goal.returns
returns c = λ rows names capital.
    let given = c.args.code.now.names.resources.items in
    let name_of : ResourceRow → Word = λ r. r.name in
    let count : length given ≡ length rows = sym (sym (length-map rows name_of) ∙ ap (λ (l : List Word). length l)
    names ∙ length-map given (λ name. name.items)) in
    let first : c.len.result ≡ length rows = (let e = c.len.ensures in omega (arith, e, count)) in
    let second : c.len-2.result ≡ length c.args.code.now.processes.items = (let e = c.len-2.ensures in omega (arith, e)) in
    let counted = c.in_ok-put_counted.ensures ∙ ap (λ (n : ℕ). c.put_heading.new.out.items ++ line_text (counted_words (codes "resources") n)) first in
    let last = c.in_ok-put_counted-2.ensures ∙ ap (λ (n : ℕ). c.put_resources.new.out.items ++ line_text (counted_words (codes "processes") n)) second in
    let resources = c.in_ok-put_resources.ensures rows (names ∙ ap (map (λ name. name.items)) (sym c.deref.ensures.value)) capital in
    in_four c.args.out.now.items c.put_heading.new.out.items c.put_counted.new.out.items c.put_resources.new.out.items _ _
    (line_text (counted_words (codes "resources") (length rows))) (flat_map (λ r. line_text (resource_words r)) rows) _
    c.in_ok-put_heading.ensures counted resources last
