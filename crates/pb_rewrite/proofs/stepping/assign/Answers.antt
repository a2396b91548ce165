use Rattle.std.proofs.Common.{◌≡◌, Some, set, ap, sym, ◌∙◌, rules, SFits, w64}
use Rattle.std.proofs.lemmas.Int.{to_z-of_z}
use Rattle.pb_base.specs.Steppers.{Silent}
use Rattle.pb_names.specs.Source as plain
use Rattle.pb_names.specs.View.{expr_view}
use Rattle.pb_rewrite.specs.View.{items_view}
use Rattle.pb_rewrite.proofs.PushedItems.{kept_assign}
use Rattle.pb_rewrite.proofs.Items.{assign_is, assign_becomes}
use Rattle.pb_rewrite.proofs.Views.{view-Doing}
use Rattle.pb_rewrite.proofs.stepping.assign.Goals as goal

pub returns-in-Is : goal.returns-in-Is
returns-in-Is g c =
    let fits : SFits w64 c.in-Is.value = search rules in
    let stored : c.store.new.vars ≡ set c.args.vars.now c.args.target c.in-Is.value = simp to_z-of_z at c.store.ensures in
    ap Some (assign_is c.args.vars.now c.args.line (items_view c.args.items.items) c.args.target (expr_view c.args.value) c.in-Is.value c.in-Is.ensures.0)
    ∙ ap (λ vs. Some (plain.Goes vs (plain.Doing (items_view c.args.items.items)) Silent)) (sym stored)
    ∙ ap (λ a. Some (plain.Goes c.store.new.vars a Silent)) (sym (view-Doing c.args.items))

pub returns-in-Becomes : goal.returns-in-Becomes
returns-in-Becomes g c =
    ap Some (assign_becomes c.args.vars.now c.args.line (items_view c.args.items.items) c.args.target (expr_view
    c.args.value) (expr_view c.rewrite.new.expr) c.in-Becomes.ensures)
    ∙ ap (λ a. Some (plain.Goes c.args.vars.now a Silent))
    (sym (kept_assign c.with_first.result (items_view c.args.items.items) c.args.line c.args.target c.rewrite.new.expr c.with_first.ensures.items))
