use Rattle.std.proofs.Common.{◌∷◌, ap, refl, subst, ◌∙◌, arith}
use Rattle.pb_names.specs.Source as plain
use Rattle.pb_names.specs.View.{block_view}
use Rattle.pb_rewrite.specs.Steps.{IsArmStep}
use Rattle.pb_rewrite.specs.View.{arm_view, items_view}
use Rattle.pb_rewrite.proofs.stepping.enter.Goals as goal

pub ask_for-requires-clause-room : goal.ask_for-requires-clause-room
ask_for-requires-clause-room g c = omega (arith, c.in-Ok.ensures.ok, c.len.ensures)

pub returns-in-Ok-clause-ok : goal.returns-in-Ok-clause-ok
returns-in-Ok-clause-ok g c =
    λ vars. subst (λ old. IsArmStep c.args.banker.now.state c.args.p vars
    (plain.Doing (plain.Hold c.args.line c.args.bundle (block_view c.args.body.items) ∷ items_view old)) c.ask_for.result.outcome vars
    (arm_view c.ask_for.result.arm) c.ask_for.new.banker.state) c.reserve.ensures.items (c.ask_for.ensures vars)

pub returns-in-Err-clause-err : goal.returns-in-Err-clause-err
returns-in-Err-clause-err g c =
    λ vars. (
      refl,
      c.unentered.ensures
          ∙ ap (λ old. plain.Doing (plain.Hold c.args.line c.args.bundle (block_view c.args.body.items) ∷ items_view old)) c.reserve.ensures.items,
      refl,
    )

pub ask_for-requires-clause-below : goal.ask_for-requires-clause-below
ask_for-requires-clause-below g c = c.requires.below

pub unentered-requires : goal.unentered-requires
unentered-requires g c = omega (arith, c.requires.room, c.reserve.ensures.len, c.reserve.ensures.capacity)

pub returns-in-Ok-clause-err : goal.returns-in-Ok-clause-err
returns-in-Ok-clause-err g c = tt

pub returns-in-Err-clause-ok : goal.returns-in-Err-clause-ok
returns-in-Err-clause-ok g c = tt
