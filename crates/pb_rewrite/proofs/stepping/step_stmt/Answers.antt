use Rattle.std.proofs.Common.{◌∷◌, ap, sym, refl, ◌∙◌}
use Rattle.pb_names.specs.Source as plain
use Rattle.pb_names.specs.Source.{item_of, begin}
use Rattle.pb_names.specs.View.{arms_view, block_view, expr_view, stmt_view}
use Rattle.pb_names.proofs.Views.{numbered-Assign, numbered-Print, numbered-If, numbered-While, numbered-Hold, numbered-Parbegin}
use Rattle.pb_rewrite.specs.View.{items_view}
use Rattle.pb_rewrite.proofs.PushedItems.{kept_while}
use Rattle.pb_rewrite.proofs.Outcomes.{free_step, free_ok, handed_back, left_ok, asked_ok, asked_err, hold_asks}
use Rattle.pb_rewrite.proofs.stepping.step_stmt.Goals as goal

pub returns-in-Assign-clause-ok : goal.returns-in-Assign-clause-ok
returns-in-Assign-clause-ok g c =
    let a = c.in-Assign in
    let rest = items_view c.args.items.items in
    let seen = ap (λ s. plain.Doing (item_of (stmt_view s) ∷ rest)) a.is ∙ ap (λ s. plain.Doing (item_of s ∷ rest)) (numbered-Assign a.line a.target a.value) in
    free_step c.args.banker.now.state c.args.p c.args.vars.now (plain.Doing (item_of (stmt_view c.args.stmt) ∷ rest))
    (plain.Assign a.line a.target (expr_view a.value) ∷ rest) seen c.assign.result c.assign.new.vars c.assign.ensures

pub returns-in-Print-clause-ok : goal.returns-in-Print-clause-ok
returns-in-Print-clause-ok g c =
    let a = c.in-Print in
    let rest = items_view c.args.items.items in
    let seen = ap (λ s. plain.Doing (item_of (stmt_view s) ∷ rest)) a.is ∙ ap (λ s. plain.Doing (item_of s ∷ rest)) (numbered-Print a.line a.value) in
    free_step c.args.banker.now.state c.args.p c.args.vars.now (plain.Doing (item_of (stmt_view c.args.stmt) ∷ rest))
    (plain.Print a.line (expr_view a.value) ∷ rest) seen c.print.result c.args.vars.now c.print.ensures

pub returns-in-If-clause-ok : goal.returns-in-If-clause-ok
returns-in-If-clause-ok g c =
    let a = c.in-If in
    let rest = items_view c.args.items.items in
    let seen = ap (λ s. plain.Doing (item_of (stmt_view s) ∷ rest)) a.is ∙ ap (λ s. plain.Doing (item_of s ∷ rest))
    (numbered-If a.line a.test a.on_true a.on_false) in
    free_ok c.args.banker.now.state c.args.p c.args.vars.now (plain.Doing (item_of (stmt_view c.args.stmt) ∷ rest))
    (plain.If a.line (expr_view a.test) (block_view a.on_true.items) (block_view a.on_false.items) ∷ rest) seen c.choose.result c.choose.ensures.ok

pub returns-in-If-clause-err : goal.returns-in-If-clause-err
returns-in-If-clause-err g c =
    let a = c.in-If in
    let rest = items_view c.args.items.items in
    let seen = ap (λ s. plain.Doing (item_of (stmt_view s) ∷ rest)) a.is ∙ ap (λ s. plain.Doing (item_of s ∷ rest))
    (numbered-If a.line a.test a.on_true a.on_false) in
    handed_back c.args.banker.now.state c.args.p c.args.vars.now (plain.Doing (item_of (stmt_view c.args.stmt) ∷ rest))
    (plain.If a.line (expr_view a.test) (block_view a.on_true.items) (block_view a.on_false.items) ∷ rest) seen c.choose.result c.choose.ensures.err

pub returns-in-Ok-clause-ok : goal.returns-in-Ok-clause-ok
returns-in-Ok-clause-ok g c =
    let a = c.in-While in
    let rest = items_view c.args.items.items in
    let seen = ap (λ s. plain.Doing (item_of (stmt_view s) ∷ rest)) a.is ∙ ap (λ s. plain.Doing (item_of s ∷ rest)) (numbered-While a.line a.test a.body)
    ∙ ap (λ e. plain.Doing (plain.While a.line (expr_view a.test) e (block_view a.body.items) ∷ rest)) (sym c.in-Ok.ensures) in
    free_ok c.args.banker.now.state c.args.p c.args.vars.now (plain.Doing (item_of (stmt_view c.args.stmt) ∷ rest))
    (plain.While a.line (expr_view a.test) (expr_view c.in-Ok.left) (block_view a.body.items) ∷ rest) seen c.step_loop.result c.step_loop.ensures.ok

pub returns-in-Ok-clause-err : goal.returns-in-Ok-clause-err
returns-in-Ok-clause-err g c =
    let a = c.in-While in
    let rest = items_view c.args.items.items in
    let seen = ap (λ s. plain.Doing (item_of (stmt_view s) ∷ rest)) a.is ∙ ap (λ s. plain.Doing (item_of s ∷ rest)) (numbered-While a.line a.test a.body)
    ∙ ap (λ e. plain.Doing (plain.While a.line (expr_view a.test) e (block_view a.body.items) ∷ rest)) (sym c.in-Ok.ensures) in
    handed_back c.args.banker.now.state c.args.p c.args.vars.now (plain.Doing (item_of (stmt_view c.args.stmt) ∷ rest))
    (plain.While a.line (expr_view a.test) (expr_view c.in-Ok.left) (block_view a.body.items) ∷ rest) seen c.step_loop.result c.step_loop.ensures.err

pub returns-in-Err-clause-err : goal.returns-in-Err-clause-err
returns-in-Err-clause-err g c =
    let a = c.in-While in
    let rest = items_view c.args.items.items in
    let seen = ap (λ s. plain.Doing (item_of (stmt_view s) ∷ rest)) a.is ∙ ap (λ s. plain.Doing (item_of s ∷ rest)) (numbered-While a.line a.test a.body) in (
      refl,
      kept_while c.with_first.result rest a.line a.test a.body c.with_first.ensures.items ∙ sym seen,
      refl,
    )

pub enter-requires-clause-below : goal.enter-requires-clause-below
enter-requires-clause-below g c =
    let a = c.in-Hold in
    let rest = items_view c.args.items.items in
    let seen = ap (λ s. plain.Doing (item_of (stmt_view s) ∷ rest)) a.is ∙ ap (λ s. plain.Doing (item_of s ∷ rest)) (numbered-Hold a.line a.bundle a.body) in
    hold_asks _ c.args.vars.now (plain.Doing (item_of (stmt_view c.args.stmt) ∷ rest)) a.line a.bundle (block_view a.body.items) rest seen c.requires.below

pub returns-in-Hold-clause-ok : goal.returns-in-Hold-clause-ok
returns-in-Hold-clause-ok g c =
    let a = c.in-Hold in
    let rest = items_view c.args.items.items in
    let seen = ap (λ s. plain.Doing (item_of (stmt_view s) ∷ rest)) a.is ∙ ap (λ s. plain.Doing (item_of s ∷ rest)) (numbered-Hold a.line a.bundle a.body) in
    asked_ok c.args.banker.now.state c.args.p c.args.vars.now (plain.Doing (item_of (stmt_view c.args.stmt) ∷ rest))
    (plain.Hold a.line a.bundle (block_view a.body.items) ∷ rest) seen c.enter.result c.enter.new.banker.state c.enter.ensures.ok

pub returns-in-Hold-clause-err : goal.returns-in-Hold-clause-err
returns-in-Hold-clause-err g c =
    let a = c.in-Hold in
    let rest = items_view c.args.items.items in
    let seen = ap (λ s. plain.Doing (item_of (stmt_view s) ∷ rest)) a.is ∙ ap (λ s. plain.Doing (item_of s ∷ rest)) (numbered-Hold a.line a.bundle a.body) in
    asked_err c.args.banker.now.state c.args.p c.args.vars.now (plain.Doing (item_of (stmt_view c.args.stmt) ∷ rest))
    (plain.Hold a.line a.bundle (block_view a.body.items) ∷ rest) seen c.enter.result c.enter.new.banker.state c.enter.ensures.err

pub returns-in-Parbegin-clause-ok : goal.returns-in-Parbegin-clause-ok
returns-in-Parbegin-clause-ok g c =
    let a = c.in-Parbegin in
    let rest = items_view c.args.items.items in
    let arm = plain.Doing (item_of (stmt_view c.args.stmt) ∷ rest) in
    let items = plain.Parbegin a.line a.first (arms_view a.arms.items) ∷ rest in
    let seen = ap (λ s. plain.Doing (item_of (stmt_view s) ∷ rest)) a.is ∙ ap (λ s. plain.Doing (item_of s ∷ rest)) (numbered-Parbegin a.line a.first a.arms) in
    free_ok c.args.banker.now.state c.args.p c.args.vars.now arm items seen c.fork.result
    (left_ok c.args.banker.now.state c.args.p c.args.vars.now arm items seen c.fork.result
    (plain.Waiting a.line a.first (begin (arms_view a.arms.items)) rest) refl c.fork.ensures.ok)

pub returns-in-Parbegin-clause-err : goal.returns-in-Parbegin-clause-err
returns-in-Parbegin-clause-err g c =
    let a = c.in-Parbegin in
    let rest = items_view c.args.items.items in
    let seen = ap (λ s. plain.Doing (item_of (stmt_view s) ∷ rest)) a.is ∙ ap (λ s. plain.Doing (item_of s ∷ rest)) (numbered-Parbegin a.line a.first a.arms) in
    handed_back c.args.banker.now.state c.args.p c.args.vars.now (plain.Doing (item_of (stmt_view c.args.stmt) ∷ rest))
    (plain.Parbegin a.line a.first (arms_view a.arms.items) ∷ rest) seen c.fork.result c.fork.ensures.err
