use Rattle.std.proofs.Common.{◌≡◌, Some, None, cond, ap, subst, sym, refl, ◌∙◌}
use Rattle.pb_base.specs.Steppers.{Silent}
use Rattle.pb_names.specs.Source as plain
use Rattle.pb_names.specs.Source.{items_of, step_arm}
use Rattle.pb_names.specs.View.{block_view}
use Rattle.pb_rewrite.specs.Steps.{CannotStep}
use Rattle.pb_rewrite.specs.View.{arm_view, items_view}
use Rattle.pb_rewrite.proofs.Outcomes.{asks_same, same_ok, same_err}
use Rattle.pb_rewrite.proofs.Views.{view-Fresh, view-Doing, view-Waiting, view-Ended}
use Rattle.pb_rewrite.proofs.stepping.step_arm.Goals as goal

pub step_fresh-requires-clause-below : goal.step_fresh-requires-clause-below
step_fresh-requires-clause-below g c =
    let seen = ap arm_view c.in-Fresh.is ∙ view-Fresh c.in-Fresh.body in
    asks_same _ c.args.vars.now (arm_view c.args.arm) (plain.Doing (items_of (block_view c.in-Fresh.body.items))) seen c.requires.below

pub returns-in-Fresh-clause-ok : goal.returns-in-Fresh-clause-ok
returns-in-Fresh-clause-ok g c =
    let seen = ap arm_view c.in-Fresh.is ∙ view-Fresh c.in-Fresh.body in
    same_ok c.args.banker.now.state c.args.p c.args.vars.now (arm_view c.args.arm) (plain.Doing (items_of (block_view c.in-Fresh.body.items))) seen
    c.step_fresh.new.vars c.step_fresh.new.banker.state c.step_fresh.result c.step_fresh.ensures.ok

pub returns-in-Fresh-clause-err : goal.returns-in-Fresh-clause-err
returns-in-Fresh-clause-err g c =
    let seen = ap arm_view c.in-Fresh.is ∙ view-Fresh c.in-Fresh.body in
    same_err c.args.banker.now.state c.args.p c.args.vars.now (arm_view c.args.arm) (plain.Doing (items_of (block_view c.in-Fresh.body.items))) seen
    c.step_fresh.new.vars c.step_fresh.new.banker.state c.step_fresh.result c.step_fresh.ensures.err

pub step_items-requires-clause-below : goal.step_items-requires-clause-below
step_items-requires-clause-below g c =
    let seen = ap arm_view c.in-Doing.is ∙ view-Doing c.in-Doing.items in
    asks_same _ c.args.vars.now (arm_view c.args.arm) (plain.Doing (items_view c.in-Doing.items.items)) seen c.requires.below

pub returns-in-Doing-clause-ok : goal.returns-in-Doing-clause-ok
returns-in-Doing-clause-ok g c =
    let seen = ap arm_view c.in-Doing.is ∙ view-Doing c.in-Doing.items in
    same_ok c.args.banker.now.state c.args.p c.args.vars.now (arm_view c.args.arm) (plain.Doing (items_view c.in-Doing.items.items)) seen
    c.step_items.new.vars c.step_items.new.banker.state c.step_items.result c.step_items.ensures.ok

pub returns-in-Doing-clause-err : goal.returns-in-Doing-clause-err
returns-in-Doing-clause-err g c =
    let seen = ap arm_view c.in-Doing.is ∙ view-Doing c.in-Doing.items in
    same_err c.args.banker.now.state c.args.p c.args.vars.now (arm_view c.args.arm) (plain.Doing (items_view c.in-Doing.items.items)) seen
    c.step_items.new.vars c.step_items.new.banker.state c.step_items.result c.step_items.ensures.err

pub returns-then-all_ended-clause-ok : goal.returns-then-all_ended-clause-ok
returns-then-all_ended-clause-ok g c =
    let a = c.in-Waiting in
    let rest = items_view a.rest.items in
    let over = sym c.all_ended.ensures ∙ c.if-all_ended.true in (
      ap (λ x. step_arm c.args.vars.now (arm_view x)) a.is
          ∙ ap (step_arm c.args.vars.now) (view-Waiting a.line a.first a.arms a.rest)
          ∙ ap (λ b. cond b (Some (plain.Goes c.args.vars.now (plain.Doing rest) Silent)) None) over
          ∙ ap (λ x. Some (plain.Goes c.args.vars.now x Silent)) (sym (view-Doing a.rest)),
      refl,
    )

pub returns-else-all_ended-clause-ok : goal.returns-else-all_ended-clause-ok
returns-else-all_ended-clause-ok g c =
    let a = c.in-Waiting in
    let rest = items_view a.rest.items in
    let over = sym c.all_ended.ensures ∙ c.if-all_ended.false in
    let none : step_arm c.args.vars.now (arm_view c.args.arm) ≡ None =
    ap (λ x. step_arm c.args.vars.now (arm_view x)) a.is
    ∙ ap (step_arm c.args.vars.now) (view-Waiting a.line a.first a.arms a.rest)
    ∙ ap (λ b. cond b (Some (plain.Goes c.args.vars.now (plain.Doing rest) Silent)) None) over in
    (subst (CannotStep c.args.banker.now.state c.args.p) (sym none) tt, refl, ap arm_view (sym a.is), refl)

pub returns-in-Ended-clause-ok : goal.returns-in-Ended-clause-ok
returns-in-Ended-clause-ok g c =
    let none : step_arm c.args.vars.now (arm_view c.args.arm) ≡ None =
    ap (λ x. step_arm c.args.vars.now (arm_view x)) c.in-Ended.is ∙ ap (step_arm c.args.vars.now) (view-Ended g.row.A.Denot) in
    (subst (CannotStep c.args.banker.now.state c.args.p) (sym none) tt, refl, ap arm_view (sym c.in-Ended.is), refl)
