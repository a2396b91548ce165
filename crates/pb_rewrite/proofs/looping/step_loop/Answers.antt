use Rattle.std.proofs.Common.{◌≡◌, ◌∷◌, Some, ap, sym, ◌∙◌, rules, SFits, w64}
use Rattle.std.proofs.lemmas.Int.{to_z-of_z}
use Rattle.pb_base.specs.Arithmetic.{is_zero}
use Rattle.pb_base.specs.Steppers.{Silent}
use Rattle.pb_names.specs.Source as plain
use Rattle.pb_names.specs.View.{expr_view, block_view}
use Rattle.pb_rewrite.specs.View.{items_view}
use Rattle.pb_rewrite.proofs.PushedItems.{kept_loop}
use Rattle.pb_rewrite.proofs.Items.{loop_becomes}
use Rattle.pb_rewrite.proofs.TestSteps.{loop_decided, kept_err}
use Rattle.pb_rewrite.proofs.looping.step_loop.Goals as goal

pub returns-in-Is-clause-ok : goal.returns-in-Is-clause-ok
returns-in-Is-clause-ok g c =
    let fits : SFits w64 c.in-Is.value = search rules in
    let fails : c.is_false.result ≡ is_zero c.in-Is.value = simp to_z-of_z at c.is_false.ensures in
    loop_decided c.args.vars.now c.args.line (items_view c.args.items.items) (expr_view c.args.test) (block_view c.args.body.items)
    (expr_view c.args.left) c.in-Is.value c.is_false.result fails c.in-Is.ensures.0 c.decide.result c.decide.ensures.ok

pub returns-in-Is-clause-err : goal.returns-in-Is-clause-err
returns-in-Is-clause-err g c =
    kept_err c.decide.result _ _ c.decide.ensures.err
    (ap (λ e. plain.Doing (plain.While c.args.line (expr_view c.args.test) e (block_view c.args.body.items) ∷ items_view c.args.items.items)) c.in-Is.ensures.1)

pub returns-in-Becomes-clause-ok : goal.returns-in-Becomes-clause-ok
returns-in-Becomes-clause-ok g c =
    ap Some (loop_becomes c.args.vars.now c.args.line (items_view c.args.items.items) (expr_view c.args.test) (block_view c.args.body.items)
    (expr_view c.args.left) (expr_view c.rewrite.new.expr) c.in-Becomes.ensures)
    ∙ ap (λ a. Some (plain.Goes c.args.vars.now a Silent))
    (sym (kept_loop c.with_first.result (items_view c.args.items.items) c.args.line c.args.test c.rewrite.new.expr c.args.body c.with_first.ensures.items))
