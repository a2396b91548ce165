use Rattle.std.proofs.Common.{◌∷◌, ap, refl, ◌∙◌, arith}
use Rattle.pb_names.specs.Source as plain
use Rattle.pb_names.specs.Source.{step_arm}
use Rattle.pb_rewrite.specs.View.{item_view, items_view}
use Rattle.pb_rewrite.proofs.ReversedLists.{items_view-push, popped_none}
use Rattle.pb_rewrite.proofs.Outcomes.{asks_same, same_ok, same_err}
use Rattle.pb_rewrite.proofs.Views.{view-Ended}
use Rattle.pb_rewrite.proofs.stepping.step_items.Goals as goal

pub returns-in-None-clause-ok : goal.returns-in-None-clause-ok
returns-in-None-clause-ok g c =
    let none = popped_none c.args.items.items (omega (arith, c.in-None.ensures.cases.0, c.args.items.ok.0)) in
    ((ap (λ is. step_arm c.args.vars.now (plain.Doing is)) none, view-Ended g.row.A.Denot, refl), refl)

pub step_item-requires-clause-below : goal.step_item-requires-clause-below
step_item-requires-clause-below g c =
    let seen = ap (λ is. plain.Doing (items_view is)) c.in-Some.ensures.items ∙ ap plain.Doing (items_view-push c.pop.new.self.items c.in-Some.first) in
    asks_same _ c.args.vars.now (plain.Doing (items_view c.args.items.items)) (plain.Doing (item_view c.in-Some.first
    ∷ items_view c.pop.new.self.items)) seen c.requires.below

pub returns-in-Some-clause-ok : goal.returns-in-Some-clause-ok
returns-in-Some-clause-ok g c =
    let seen = ap (λ is. plain.Doing (items_view is)) c.in-Some.ensures.items ∙ ap plain.Doing (items_view-push c.pop.new.self.items c.in-Some.first) in
    same_ok c.args.banker.now.state c.args.p c.args.vars.now (plain.Doing (items_view c.args.items.items))
    (plain.Doing (item_view c.in-Some.first ∷ items_view c.pop.new.self.items)) seen
    c.step_item.new.vars c.step_item.new.banker.state c.step_item.result c.step_item.ensures.ok

pub returns-in-Some-clause-err : goal.returns-in-Some-clause-err
returns-in-Some-clause-err g c =
    let seen = ap (λ is. plain.Doing (items_view is)) c.in-Some.ensures.items ∙ ap plain.Doing (items_view-push c.pop.new.self.items c.in-Some.first) in
    same_err c.args.banker.now.state c.args.p c.args.vars.now (plain.Doing (items_view c.args.items.items))
    (plain.Doing (item_view c.in-Some.first ∷ items_view c.pop.new.self.items)) seen
    c.step_item.new.vars c.step_item.new.banker.state c.step_item.result c.step_item.ensures.err
