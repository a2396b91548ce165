use Rattle.std.proofs.Common.{◌∷◌, Some, ap, sym, refl, ◌∙◌}
use Rattle.pb_base.specs.Steppers.{Returns}
use Rattle.pb_names.specs.Source as plain
use Rattle.pb_names.specs.Source.{step_arm}
use Rattle.pb_names.specs.View.{block_view, expr_view, stmt_view}
use Rattle.pb_rewrite.specs.View.{item_view, items_view}
use Rattle.pb_rewrite.proofs.Outcomes.{asks_same, same_ok, same_err, free_ok, handed_back}
use Rattle.pb_rewrite.proofs.Views.{view-Doing}
use Rattle.pb_rewrite.proofs.stepping.step_item.Goals as goal

pub step_stmt-requires-clause-below : goal.step_stmt-requires-clause-below
step_stmt-requires-clause-below g c =
    let rest = items_view c.args.items.items in
    let seen = ap (λ i. plain.Doing (item_view i ∷ rest)) c.in-Left.is in
    asks_same _ c.args.vars.now (plain.Doing (item_view c.args.first ∷ rest)) (plain.Doing (plain.item_of (stmt_view
    c.in-Left.stmt) ∷ rest)) seen c.requires.below

pub returns-in-Left-clause-ok : goal.returns-in-Left-clause-ok
returns-in-Left-clause-ok g c =
    let rest = items_view c.args.items.items in
    let seen = ap (λ i. plain.Doing (item_view i ∷ rest)) c.in-Left.is in
    same_ok c.args.banker.now.state c.args.p c.args.vars.now (plain.Doing (item_view c.args.first ∷ rest))
    (plain.Doing (plain.item_of (stmt_view c.in-Left.stmt) ∷ rest)) seen
    c.step_stmt.new.vars c.step_stmt.new.banker.state c.step_stmt.result c.step_stmt.ensures.ok

pub returns-in-Left-clause-err : goal.returns-in-Left-clause-err
returns-in-Left-clause-err g c =
    let rest = items_view c.args.items.items in
    let seen = ap (λ i. plain.Doing (item_view i ∷ rest)) c.in-Left.is in
    same_err c.args.banker.now.state c.args.p c.args.vars.now (plain.Doing (item_view c.args.first ∷ rest))
    (plain.Doing (plain.item_of (stmt_view c.in-Left.stmt) ∷ rest)) seen
    c.step_stmt.new.vars c.step_stmt.new.banker.state c.step_stmt.result c.step_stmt.ensures.err

pub returns-in-While-clause-ok : goal.returns-in-While-clause-ok
returns-in-While-clause-ok g c =
    let a = c.in-While in
    let rest = items_view c.args.items.items in
    let seen = ap (λ i. plain.Doing (item_view i ∷ rest)) a.is in
    free_ok c.args.banker.now.state c.args.p c.args.vars.now (plain.Doing (item_view c.args.first ∷ rest))
    (plain.While a.line (expr_view a.test) (expr_view a.left) (block_view a.body.items) ∷ rest) seen c.step_loop.result c.step_loop.ensures.ok

pub returns-in-While-clause-err : goal.returns-in-While-clause-err
returns-in-While-clause-err g c =
    let a = c.in-While in
    let rest = items_view c.args.items.items in
    let seen = ap (λ i. plain.Doing (item_view i ∷ rest)) a.is in
    handed_back c.args.banker.now.state c.args.p c.args.vars.now (plain.Doing (item_view c.args.first ∷ rest))
    (plain.While a.line (expr_view a.test) (expr_view a.left) (block_view a.body.items) ∷ rest) seen c.step_loop.result c.step_loop.ensures.err

pub returns-in-GiveBack-clause-ok : goal.returns-in-GiveBack-clause-ok
returns-in-GiveBack-clause-ok g c =
    let a = c.in-GiveBack in
    let rest = items_view c.args.items.items in (
      ap (λ i. step_arm c.args.vars.now (plain.Doing (item_view i ∷ rest))) a.is
          ∙ ap (λ x. Some (plain.Goes c.args.vars.now x (Returns a.bundle))) (sym (view-Doing c.args.items)),
      refl,
    )
