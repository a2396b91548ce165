use Rattle.std.proofs.Common.{◌++◌, ◌∷◌, List, cond, ap, refl, sym, subst}
use Rattle.std.specs.Prelude.{IfOk}
use Rattle.pb_names.specs.Source as plain
use Rattle.pb_names.specs.Source.{items_of}
use Rattle.pb_names.specs.View.{expr_view, block_view}
use Rattle.pb_rewrite.specs.Steps.{LeavesArm}
use Rattle.pb_rewrite.specs.View.{items_view}
use Rattle.pb_rewrite.proofs.PushedItems.{entered}
use Rattle.pb_rewrite.proofs.looping.decide.Goals as goal

pub returns-then-fails-clause-ok : goal.returns-then-fails-clause-ok
returns-then-fails-clause-ok g c =
    let again = items_of (block_view c.args.body.items) ++ plain.While c.args.line (expr_view c.args.test) (expr_view
    c.args.test) (block_view c.args.body.items) ∷ items_view c.args.items.items in (
      refl,
      entered c.args.items (cond c.args.fails (items_view c.args.items.items) again)
          (sym (ap (λ b. cond b (items_view c.args.items.items) again) c.if-fails.true)),
    )

pub returns-in-Ok-clause-ok : goal.returns-in-Ok-clause-ok
returns-in-Ok-clause-ok g c =
    let again : List plain.Item = items_of (block_view c.args.body.items) ++ plain.While c.args.line (expr_view
    c.args.test) (expr_view c.args.test) (block_view c.args.body.items) ∷ items_view c.args.items.items in
    subst (λ b. IfOk c.repeat.result (λ s. LeavesArm s (plain.Doing (cond b (items_view c.args.items.items) again))))
    (sym c.if-fails.false) c.repeat.ensures.ok

pub returns-in-Ok-clause-err : goal.returns-in-Ok-clause-err
returns-in-Ok-clause-err g c = c.repeat.ensures.err

pub returns-in-Err-clause-err : goal.returns-in-Err-clause-err
returns-in-Err-clause-err g c = c.unrepeated.ensures
