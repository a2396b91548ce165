use Rattle.std.proofs.Common.{◌++◌, ◌∷◌, ap, ap₂, refl, ◌∙◌, arith}
use Rattle.pb_names.specs.Source as plain
use Rattle.pb_names.specs.Source.{items_of}
use Rattle.pb_names.specs.View.{expr_view, block_view}
use Rattle.pb_names.proofs.Views.{numbered-While}
use Rattle.pb_rewrite.specs.View.{items_view}
use Rattle.pb_rewrite.proofs.PushedItems.{entered}
use Rattle.pb_rewrite.proofs.looping.repeat.Goals as goal

pub with_body-requires : goal.with_body-requires
with_body-requires g c =
    omega (arith, c.in-Ok.ensures.ok, c.with_first-items.ensures.len, c.with_first-items.ensures.capacity, c.len.ensures)

pub returns-in-Ok-clause-ok : goal.returns-in-Ok-clause-ok
returns-in-Ok-clause-ok g c =
    let whole = c.with_first-items.ensures.items
    ∙ ap₂ (λ i old. i ∷ old) (ap plain.item_of (numbered-While c.args.line c.args.test c.args.body)) (ap items_view c.reserve.ensures.items) in (
      refl,
      entered c.with_body.result
          (items_of (block_view c.args.body.items) ++ plain.While c.args.line (expr_view c.args.test) (expr_view
          c.args.test) (block_view c.args.body.items) ∷ items_view c.args.items.items)
          (c.with_body.ensures ∙ ap₂ (λ b old. items_of b ++ old) c.requires.same whole),
    )

pub returns-in-Err-clause-err : goal.returns-in-Err-clause-err
returns-in-Err-clause-err g c =
    c.unrepeated.ensures
    ∙ ap (λ old. plain.Doing (plain.While c.args.line (expr_view c.args.test) (expr_view c.args.left) (block_view c.args.body.items) ∷ items_view old))
    c.reserve.ensures.items
