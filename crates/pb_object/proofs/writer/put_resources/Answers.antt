use Rattle.std.proofs.Common.{◌≡◌, ◌++◌, ◌∙◌, ap, sym, ℕ, length, List, arith, take}
use Rattle.std.specs.List.{flat_map}
use Rattle.std.proofs.lemmas.List.{length-map, take_all}
use Rattle.pb_object.specs.Lines.{line_text}
use Rattle.pb_object.specs.Objects.{ResourceRow, resource_words}
use Rattle.pb_code.specs.Names.{Word}
use Rattle.pb_object.proofs.WrittenRows.{next_text, resource_at}
use Rattle.pb_object.proofs.writer.put_resources.Goals as goal

pub loop-r-preserved : goal.loop-r-preserved
loop-r-preserved c = λ rows names capital.
    let text : ResourceRow → List ℕ = λ r. line_text (resource_words r) in
    let at = resource_at rows (λ name. name.items) c.args.names.now c.args.capital.now c.loop-r.r
    c.index-names-r.result c.get.result names capital c.loop-r-test.true
    c.index-names-r.is c.get.ensures in
    let written = rw c.deref.ensures.value at c.in_ok-put_resource.ensures in
    next_text text rows c.loop-r.r _ c.args.out.now.items c.loop-r.out.items _ at.0 (c.loop-r.invariant rows names capital)
    (written ∙ ap (λ (row : ResourceRow). c.loop-r.out.items ++ text row) (sym at.1))

pub returns : goal.returns
returns c = λ rows names capital.
    let text : ResourceRow → List ℕ = λ r. line_text (resource_words r) in
    let name_of : ResourceRow → Word = λ r. r.name in
    let count = sym (length-map rows name_of) ∙ ap (λ (l : List Word). length l) names ∙ length-map c.args.names.now (λ name. name.items) in
    let all : take c.loop-r.r rows ≡ rows = take_all c.loop-r.r rows (let end = c.loop-r-test.false in omega (arith, count, end)) in
    c.loop-r.invariant rows names capital ∙ ap (λ (l : List ResourceRow). c.args.out.now.items ++ flat_map text l) all
