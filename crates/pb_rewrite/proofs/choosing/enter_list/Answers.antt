use Rattle.std.proofs.Common.{◌++◌, ◌∷◌, vec_len, ap, ap₂, refl, ◌∙◌, arith}
use Rattle.pb_names.specs.Source.{items_of}
use Rattle.pb_names.specs.declared.resolved.Stmt.{If}
use Rattle.pb_rewrite.specs.View.{item_view, items_view}
use Rattle.pb_rewrite.specs.declared.item.Item.TheVariants.{Left}
use Rattle.pb_rewrite.proofs.PushedItems.{kept_if, entered, chosen_view}
use Rattle.pb_rewrite.proofs.choosing.enter_list.Goals as goal

pub with_body-requires : goal.with_body-requires
with_body-requires g c = omega (arith, c.in-Ok.ensures.ok, c.chosen_len.ensures, ap vec_len c.chosen.ensures)

pub returns-in-Ok-clause-ok : goal.returns-in-Ok-clause-ok
returns-in-Ok-clause-ok g c = (
  refl,
  entered c.with_body.result _
      (c.with_body.ensures
      ∙ ap₂ (λ b old. items_of b ++ old)
      (chosen_view c.args.fails c.args.on_true c.args.on_false c.chosen.result c.chosen.ensures)
      (ap items_view c.reserve.ensures.items)),
)

pub returns-in-Err-clause-err : goal.returns-in-Err-clause-err
returns-in-Err-clause-err g c =
    kept_if c.with_first.result (items_view c.args.items.items) c.args.line c.args.test c.args.on_true c.args.on_false
    (c.with_first.ensures.items
    ∙ ap (λ old. item_view (Left (If c.args.line c.args.test c.args.on_true c.args.on_false)) ∷ items_view old) c.reserve.ensures.items)
