use Rattle.std.proofs.Common.{Some, ap, sym, ◌∙◌, rules, SFits, w64}
use Rattle.std.proofs.lemmas.Int.{to_z-of_z}
use Rattle.pb_base.specs.Steppers.{Silent, Prints}
use Rattle.pb_names.specs.Source as plain
use Rattle.pb_names.specs.View.{expr_view}
use Rattle.pb_rewrite.specs.View.{items_view}
use Rattle.pb_rewrite.proofs.PushedItems.{kept_print}
use Rattle.pb_rewrite.proofs.Items.{print_is, print_becomes}
use Rattle.pb_rewrite.proofs.Views.{view-Doing}
use Rattle.pb_rewrite.proofs.stepping.print.Goals as goal

pub returns-in-Is : goal.returns-in-Is
returns-in-Is g c =
    let fits : SFits w64 c.in-Is.value = search rules in
    simp to_z-of_z (ap Some (print_is c.args.vars.now c.args.line (items_view c.args.items.items) (expr_view c.args.value) c.in-Is.value c.in-Is.ensures.0)
    ∙ ap (λ a. Some (plain.Goes c.args.vars.now a (Prints c.in-Is.value))) (sym (view-Doing c.args.items)))

pub returns-in-Becomes : goal.returns-in-Becomes
returns-in-Becomes g c =
    ap Some (print_becomes c.args.vars.now c.args.line (items_view c.args.items.items) (expr_view c.args.value)
    (expr_view c.rewrite.new.expr) c.in-Becomes.ensures)
    ∙ ap (λ a. Some (plain.Goes c.args.vars.now a Silent))
    (sym (kept_print c.with_first.result (items_view c.args.items.items) c.args.line c.rewrite.new.expr c.with_first.ensures.items))
