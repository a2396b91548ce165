use Rattle.std.proofs.Common.{◌∙◌, List, ap, map, subst}
use Rattle.pb_base.specs.Lines.{names_view}
use Rattle.pb_code.specs.View.{labels_view}
use Rattle.pb_code.specs.Whole.{Code}
use Rattle.pb_search_engine.specs.Items.{given_item_view}
use Rattle.pb_search_engine.specs.Sayings.{Finds, Saying}
use Rattle.pb_search_engine.specs.declared.item.Item.{Item}
use Rattle.pb_search_engine.proofs.TellLemmas.{as_named}
use Rattle.pb_verifier.specs.Verified.{VerifiedCode}
use Rattle.pb_voice.specs.Held.{at}
use Rattle.pb_voice.specs.Tellings.{Breaking, Telling, broken, whole}
use Rattle.pb_search_engine.proofs.answer.tell_answer.Goals as goal

pub returns-in-Ok-tell_items-clause-items : goal.returns-in-Ok-tell_items-clause-items
returns-in-Ok-tell_items-clause-items g c =
    let old = at g.O.Output.written g.O.Output.failures c.args.teller.now c.args.output.now in
    let new = at g.O.Output.written g.O.Output.failures c.tell_items.new.teller c.tell_items.new.output in
    let names = names_view c.code.result.now.names in
    let labels = labels_view c.labels.result.now in
    let items = map given_item_view c.in-Ok.answer.items.items in
    rw c.in-Ok.is (whole (rw (c.in-Ok.is) at c.requires) (subst (λ (l : List Saying). Telling g.T.Teller.tells old l new)
    (as_named items names c.args.compiled.now.verified.code.names labels c.args.compiled.now.labels
    (ap (λ (code : Code). code.names) c.code.ensures.code ∙ ap (λ (v : VerifiedCode). v.code.names) c.verified.ensures) c.labels.ensures.labels)
    (subst (λ (l : List Item). Telling g.T.Teller.tells old (map (Finds names labels) (map given_item_view l)) new) c.deref.ensures.value c.in-Ok-tell_items.ensures.told)))

pub returns-in-Ok-clause-items : goal.returns-in-Ok-clause-items
returns-in-Ok-clause-items g c =
    let old = at g.O.Output.written g.O.Output.failures c.args.teller.now c.args.output.now in
    let new = at g.O.Output.written g.O.Output.failures c.tell_items.new.teller c.tell_items.new.output in
    let names = names_view c.code.result.now.names in
    let labels = labels_view c.labels.result.now in
    let items = map given_item_view c.in-Ok.answer.items.items in
    rw c.in-Ok.is (broken (subst (λ (l : List Saying). Breaking g.T.Teller.tells g.T.Teller.breaks old l new)
    (as_named items names c.args.compiled.now.verified.code.names labels c.args.compiled.now.labels
    (ap (λ (code : Code). code.names) c.code.ensures.code ∙ ap (λ (v : VerifiedCode). v.code.names) c.verified.ensures) c.labels.ensures.labels)
    (subst (λ (l : List Item). Breaking g.T.Teller.tells g.T.Teller.breaks old (map (Finds names labels) (map given_item_view l)) new) c.deref.ensures.value c.in-Err-tell_items.ensures.broken)))
