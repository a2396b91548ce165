use Rattle.std.proofs.Common.{◌≡◌, ℕ, List, subst, ap, ◌∙◌}
use Rattle.pb_base.specs.Device.{appended, AddsPrefix}
use Rattle.pb_bank_engine.proofs.LineParts.{either, page_broken, page_fed, page_from, page_some, page_some_broken, page_some_from}
use Rattle.pb_bank_engine.proofs.session.feed.Goals as goal

pub returns-in_default-clause-some : goal.returns-in_default-clause-some
returns-in_default-clause-some g c = λ part e.
    let old = g.O.Output.written c.args.output.now in
    let new = g.O.Output.written c.write_all.new.output in
    let d = c.args.desk.now in
    let bytes = c.args.bytes.now in
    let start = c.clear.new.self.items in
    let page = c.feed_page-fed.new.page.items in
    let broken : AddsPrefix old new page = subst (λ (t : List ℕ). AddsPrefix old new t) c.as_slice.ensures.value c.in_default.ensures.prefix in
    either c.feed_page-fed.result _ _ _ c.feed_page-fed.ensures.fed c.feed_page-fed.ensures.some
    (λ fed. page_broken c.args.form d part bytes page old new _ _ (page_from c.args.form d part bytes start _ _ _ c.clear.ensures.items (fed part e)) broken)
    (λ some. page_some_broken c.args.form d part bytes page old new (page_some_from c.args.form d part bytes start _ c.clear.ensures.items (some part e)) broken)

pub returns-in-Ok-fed-clause-fed : goal.returns-in-Ok-fed-clause-fed
returns-in-Ok-fed-clause-fed g c = λ part e.
    let old = g.O.Output.written c.args.output.now in
    let new = g.O.Output.written c.write_all.new.output in
    let d = c.args.desk.now in
    let bytes = c.args.bytes.now in
    let start = c.clear.new.self.items in
    let page = c.feed_page-fed.new.page.items in
    let written : new ≡ appended old page = c.in-Ok.ensures.ok ∙ ap (λ (t : List ℕ). appended old t) c.as_slice.ensures.value in
    page_fed c.args.form d part bytes page old new _ _ (page_from c.args.form d part bytes start _ _ _ c.clear.ensures.items (c.in-Ok-fed.ensures.fed part e)) written

pub returns-in-Err-clause-some : goal.returns-in-Err-clause-some
returns-in-Err-clause-some g c = λ part e.
    let old = g.O.Output.written c.args.output.now in
    let new = g.O.Output.written c.write_all.new.output in
    let d = c.args.desk.now in
    let bytes = c.args.bytes.now in
    let start = c.clear.new.self.items in
    let page = c.feed_page-fed.new.page.items in
    let written : new ≡ appended old page = c.in-Ok.ensures.ok ∙ ap (λ (t : List ℕ). appended old t) c.as_slice.ensures.value in
    page_some c.args.form d part bytes page old new (page_some_from c.args.form d part bytes start _ c.clear.ensures.items (c.in-Err.ensures.some part e)) written
