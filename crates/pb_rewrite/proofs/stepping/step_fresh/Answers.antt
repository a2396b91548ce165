use Rattle.std.proofs.Common.{◌≡◌, ◌++◌, ap, sym, refl, ◌∙◌, append-nil}
use Rattle.pb_names.specs.Source as plain
use Rattle.pb_names.specs.Source.{items_of}
use Rattle.pb_names.specs.View.{block_view}
use Rattle.pb_rewrite.specs.View.{items_view}
use Rattle.pb_rewrite.proofs.Outcomes.{asks_same, same_ok, same_err}
use Rattle.pb_rewrite.proofs.Views.{view-Fresh}
use Rattle.pb_rewrite.proofs.stepping.step_fresh.Goals as goal

pub step_items-requires-clause-below : goal.step_items-requires-clause-below
step_items-requires-clause-below g c =
    let body = items_of (block_view c.args.body.items) in
    let seen : plain.Doing body ≡ plain.Doing (items_view c.with_body.result.items) =
    ap plain.Doing (sym (c.with_body.ensures ∙ ap (λ is. body ++ items_view is) c.in-Ok.ensures.none ∙ append-nil body)) in
    asks_same _ c.args.vars.now (plain.Doing body) (plain.Doing (items_view c.with_body.result.items)) seen c.requires.below

pub returns-in-Ok-clause-ok : goal.returns-in-Ok-clause-ok
returns-in-Ok-clause-ok g c =
    let body = items_of (block_view c.args.body.items) in
    let seen : plain.Doing body ≡ plain.Doing (items_view c.with_body.result.items) =
    ap plain.Doing (sym (c.with_body.ensures ∙ ap (λ is. body ++ items_view is) c.in-Ok.ensures.none ∙ append-nil body)) in
    same_ok c.args.banker.now.state c.args.p c.args.vars.now (plain.Doing body) (plain.Doing (items_view c.with_body.result.items)) seen
    c.step_items.new.vars c.step_items.new.banker.state c.step_items.result c.step_items.ensures.ok

pub returns-in-Ok-clause-err : goal.returns-in-Ok-clause-err
returns-in-Ok-clause-err g c =
    let body = items_of (block_view c.args.body.items) in
    let seen : plain.Doing body ≡ plain.Doing (items_view c.with_body.result.items) =
    ap plain.Doing (sym (c.with_body.ensures ∙ ap (λ is. body ++ items_view is) c.in-Ok.ensures.none ∙ append-nil body)) in
    same_err c.args.banker.now.state c.args.p c.args.vars.now (plain.Doing body) (plain.Doing (items_view c.with_body.result.items)) seen
    c.step_items.new.vars c.step_items.new.banker.state c.step_items.result c.step_items.ensures.err

pub returns-in-Err-clause-err : goal.returns-in-Err-clause-err
returns-in-Err-clause-err g c = (refl, view-Fresh c.args.body, refl)
