use Rattle.std.proofs.Common.{◌≡◌, ap, inl, inr, refl, sym, subst, ◌∙◌}
use Rattle.pb_names.specs.Source as plain
use Rattle.pb_names.specs.Source.{find, put}
use Rattle.pb_rewrite.specs.Sound.{IsSingle}
use Rattle.pb_rewrite.specs.View.{arm_view}
use Rattle.pb_rewrite.proofs.TakenArms.{put_over, find_ended, single_put, put_found, is_there}
use Rattle.pb_rewrite.proofs.Views.{view-Ended}
use Rattle.pb_rewrite.proofs.process.step_run.Goals as goal

pub returns-then-not-swap-clause-ok : goal.returns-then-not-swap-clause-ok
returns-then-not-swap-clause-ok g c =
    inr (c.if-not-swap.ensures.0, refl, refl, c.if-not-swap.ensures.1, refl)

pub step_arm-requires-clause-below : goal.step_arm-requires-clause-below
step_arm-requires-clause-below g c = c.requires.below (arm_view c.swap.new.other) c.if-not-swap.ensures.0

pub put_back-requires-clause-single : goal.put_back-requires-clause-single
put_back-requires-clause-single g c =
    let a = c.args.pick.arm in
    let run = arm_view c.args.run.now in
    let out : arm_view c.swap.new.arm ≡ put a plain.Ended 0 run = c.if-not-swap.ensures.1 ∙ ap (λ x. put a x 0 run) (view-Ended g.row.A.Denot) in
    subst (IsSingle a) (sym out) (single_put a 0 run c.requires.single)

pub put_back-requires-clause-there : goal.put_back-requires-clause-there
put_back-requires-clause-there g c =
    let a = c.args.pick.arm in
    let run = arm_view c.args.run.now in
    let out : arm_view c.swap.new.arm ≡ put a plain.Ended 0 run = c.if-not-swap.ensures.1 ∙ ap (λ x. put a x 0 run) (view-Ended g.row.A.Denot) in
    is_there _ plain.Ended (ap (find a 0) out ∙ find_ended a 0 (arm_view c.swap.new.other) run c.if-not-swap.ensures.0)

pub put_back-requires-in-Err-clause-single : goal.put_back-requires-in-Err-clause-single
put_back-requires-in-Err-clause-single g c =
    let a = c.args.pick.arm in
    let run = arm_view c.args.run.now in
    let out : arm_view c.swap.new.arm ≡ put a plain.Ended 0 run = c.if-not-swap.ensures.1 ∙ ap (λ x. put a x 0 run) (view-Ended g.row.A.Denot) in
    subst (IsSingle a) (sym out) (single_put a 0 run c.requires.single)

pub put_back-requires-in-Err-clause-there : goal.put_back-requires-in-Err-clause-there
put_back-requires-in-Err-clause-there g c =
    let a = c.args.pick.arm in
    let run = arm_view c.args.run.now in
    let out : arm_view c.swap.new.arm ≡ put a plain.Ended 0 run = c.if-not-swap.ensures.1 ∙ ap (λ x. put a x 0 run) (view-Ended g.row.A.Denot) in
    is_there _ plain.Ended (ap (find a 0) out ∙ find_ended a 0 (arm_view c.swap.new.other) run c.if-not-swap.ensures.0)

pub returns-in-Ok-clause-ok : goal.returns-in-Ok-clause-ok
returns-in-Ok-clause-ok g c =
    let a = c.args.pick.arm in
    let run = arm_view c.args.run.now in
    let out : arm_view c.swap.new.arm ≡ put a plain.Ended 0 run = c.if-not-swap.ensures.1 ∙ ap (λ x. put a x 0 run) (view-Ended g.row.A.Denot) in
    inl (
      arm_view c.swap.new.other,
      arm_view c.in-Ok.stepped.arm,
      c.if-not-swap.ensures.0,
      c.in-Ok.ensures.ok,
      c.put_back.ensures ∙ ap (put a (arm_view c.in-Ok.stepped.arm) 0) out ∙ put_over a 0 (arm_view c.in-Ok.stepped.arm) run,
    )

pub returns-in-Err-clause-same_run : goal.returns-in-Err-clause-same_run
returns-in-Err-clause-same_run g c =
    let a = c.args.pick.arm in
    let run = arm_view c.args.run.now in
    let out : arm_view c.swap.new.arm ≡ put a plain.Ended 0 run = c.if-not-swap.ensures.1 ∙ ap (λ x. put a x 0 run) (view-Ended g.row.A.Denot) in
    let back = c.in-Err.ensures.err in
    c.put_back-in-Err.ensures ∙ ap (put a (arm_view c.in-Err.arm) 0) out ∙ put_over a 0 (arm_view c.in-Err.arm) run
    ∙ ap (λ x. put a x 0 run) back.1
    ∙ put_found a 0 (arm_view c.swap.new.other) run c.requires.single c.if-not-swap.ensures.0
