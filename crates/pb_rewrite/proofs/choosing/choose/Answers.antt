use Rattle.std.proofs.Common.{◌≡◌, ◌∷◌, Some, ap, sym, ◌∙◌, rules, SFits, w64}
use Rattle.std.proofs.lemmas.Int.{to_z-of_z}
use Rattle.pb_base.specs.Arithmetic.{is_zero}
use Rattle.pb_base.specs.Steppers.{Silent}
use Rattle.pb_names.specs.Source as plain
use Rattle.pb_names.specs.View.{expr_view, block_view}
use Rattle.pb_rewrite.specs.View.{items_view}
use Rattle.pb_rewrite.proofs.PushedItems.{kept_if}
use Rattle.pb_rewrite.proofs.Items.{choice_becomes}
use Rattle.pb_rewrite.proofs.TestSteps.{choice_chosen, kept_err}
use Rattle.pb_rewrite.proofs.choosing.choose.Goals as goal

pub returns-in-Is-clause-ok : goal.returns-in-Is-clause-ok
returns-in-Is-clause-ok g c =
    let fits : SFits w64 c.in-Is.value = search rules in
    let fails : c.is_false.result ≡ is_zero c.in-Is.value = simp to_z-of_z at c.is_false.ensures in
    choice_chosen c.args.vars.now c.args.line (items_view c.args.items.items) (block_view c.args.on_true.items) (block_view c.args.on_false.items)
    (expr_view c.args.test) c.in-Is.value c.is_false.result fails c.in-Is.ensures.0 c.enter_list.result c.enter_list.ensures.ok

pub returns-in-Is-clause-err : goal.returns-in-Is-clause-err
returns-in-Is-clause-err g c =
    kept_err c.enter_list.result _ _ c.enter_list.ensures.err
    (ap (λ e. plain.Doing (plain.If c.args.line e (block_view c.args.on_true.items) (block_view
    c.args.on_false.items) ∷ items_view c.args.items.items)) c.in-Is.ensures.1)

pub returns-in-Becomes-clause-ok : goal.returns-in-Becomes-clause-ok
returns-in-Becomes-clause-ok g c =
    ap Some (choice_becomes c.args.vars.now c.args.line (items_view c.args.items.items) (block_view c.args.on_true.items) (block_view c.args.on_false.items)
    (expr_view c.args.test) (expr_view c.rewrite.new.expr) c.in-Becomes.ensures)
    ∙ ap (λ a. Some (plain.Goes c.args.vars.now a Silent))
    (sym (kept_if c.with_first.result (items_view c.args.items.items) c.args.line c.rewrite.new.expr c.args.on_true c.args.on_false c.with_first.ensures.items))
