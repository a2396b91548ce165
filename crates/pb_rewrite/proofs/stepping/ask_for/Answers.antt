use Rattle.std.proofs.Common.{◌++◌, ◌∷◌, Some, ap, refl, sym, ◌∙◌, arith}
use Rattle.pb_base.specs.Steppers.{Takes}
use Rattle.pb_names.specs.Source as plain
use Rattle.pb_names.specs.Source.{items_of}
use Rattle.pb_names.specs.View.{block_view}
use Rattle.pb_rewrite.specs.View.{items_view}
use Rattle.pb_rewrite.proofs.PushedItems.{entered}
use Rattle.pb_rewrite.proofs.Outcomes.{not_allowed}
use Rattle.pb_rewrite.proofs.stepping.ask_for.Goals as goal

pub with_body-requires : goal.with_body-requires
with_body-requires g c =
    omega (arith, c.requires.room, c.with_first-items.ensures.len, c.with_first-items.ensures.capacity)

pub returns-in-Granted : goal.returns-in-Granted
returns-in-Granted g c =
    let next = entered c.with_body.result
    (items_of (block_view c.args.body.items) ++ plain.GiveBack c.args.line c.args.bundle ∷ items_view c.args.items.items)
    (c.with_body.ensures ∙ ap (λ old. items_of (block_view c.args.body.items) ++ old) c.with_first-items.ensures.items) in
    λ vars. (
      ap (λ a. Some (plain.Goes vars a (Takes c.args.bundle))) (sym next),
      c.in-Granted.ensures.answer.granted.0 refl,
      c.in-Granted.ensures.state,
    )

pub returns-in-NotNow : goal.returns-in-NotNow
returns-in-NotNow g c =
    λ vars. (
      not_allowed c.args.banker.now.state c.args.p c.args.bundle _ c.in-NotNow.ensures.answer (λ e. cc),
      refl,
      c.unentered.ensures,
      c.in-NotNow.ensures.state,
    )

pub returns-in-OverClaim : goal.returns-in-OverClaim
returns-in-OverClaim g c =
    λ vars. (
      not_allowed c.args.banker.now.state c.args.p c.args.bundle _ c.in-OverClaim.ensures.answer (λ e. cc),
      refl,
      c.unentered-in-OverClaim.ensures,
      c.in-OverClaim.ensures.state,
    )

pub ask-requires-clause-below : goal.ask-requires-clause-below
ask-requires-clause-below g c = c.requires.below

pub with_first-items-requires : goal.with_first-items-requires
with_first-items-requires g c = omega (arith, c.requires.room)

pub unentered-requires : goal.unentered-requires
unentered-requires g c = omega (arith, c.requires.room)

pub unentered-requires-in-OverClaim : goal.unentered-requires-in-OverClaim
unentered-requires-in-OverClaim g c = omega (arith, c.requires.room)
