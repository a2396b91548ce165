use borrow.Author.Count.{falls}
use Rattle.std.proofs.Common.{map, rules, ap, refl, ◌∙◌}
use Rattle.pb_tree.specs.View.{stmt_view, stmts_view, arm_view, arms_view, stmts_of, joined_arms}
use Rattle.pb_tree.proofs.Copies.{copied_more, copied_all}
use Rattle.pb_tree.proofs.Smaller.{stmt_nodes_within, arm_nodes_within, arms_nodes_within, then_nodes_within, else_nodes_within}
use Rattle.pb_tree.proofs.Smaller.{repeated_nodes_within, held_nodes_within}
use Rattle.pb_tree.proofs.StmtShapes.{same_assign, same_print, same_if, same_while, same_hold, same_parbegin}
use Rattle.pb_tree.proofs.Views.{view-Assign, view-Print, view-If, view-While, view-Hold, view-Parbegin}
use Rattle.pb_tree.proofs.stmt.Stmt.+copy.Goals as goal

pub copy_list-loop-stmt-preserved : goal.copy_list-loop-stmt-preserved
copy_list-loop-stmt-preserved g t c =
    copied_more stmt_view stmt_view _ _ _ _ _ _ c.loop-stmt.invariant c.loop-stmt-test.true c.stmt-item.is
    c.in_ok-push.ensures.items c.in_ok-copy_into.ensures

pub copy_list-loop-stmt-init : goal.copy_list-loop-stmt-init
copy_list-loop-stmt-init g t c = ap (map stmt_view) c.new-copy.ensures.items

pub copy_list-loop-stmt-smaller : goal.copy_list-loop-stmt-smaller
copy_list-loop-stmt-smaller g t c = falls _ _ c.loop-stmt-test.true

pub copy_arms-loop-arm-preserved : goal.copy_arms-loop-arm-preserved
unfolding arm_view
copy_arms-loop-arm-preserved g t c =
    copied_more arm_view arm_view _ _ _ _ _ _ c.loop-arm.invariant c.loop-arm-test.true c.arm-item.is
    c.in_ok-push.ensures.items c.in_ok-copy_list.ensures

pub copy_arms-loop-arm-init : goal.copy_arms-loop-arm-init
copy_arms-loop-arm-init g t c = ap (map arm_view) c.new-copy.ensures.items

pub copy_arms-loop-arm-smaller : goal.copy_arms-loop-arm-smaller
copy_arms-loop-arm-smaller g t c = falls _ _ c.loop-arm-test.true

pub copy_list-returns : goal.copy_list-returns
copy_list-returns g t c =
    ap stmts_of (copied_all stmt_view stmt_view _ _ _ c.loop-stmt.invariant c.loop-stmt-test.false)
    ∙ ap stmts_view c.deref-stmt-items.ensures.value

pub copy_arms-returns : goal.copy_arms-returns
copy_arms-returns g t c =
    ap joined_arms (copied_all arm_view arm_view _ _ _ c.loop-arm.invariant c.loop-arm-test.false)
    ∙ ap arms_view c.deref-arm-items.ensures.value

pub copy_list-copy_into-requires : goal.copy_list-copy_into-requires
copy_list-copy_into-requires g t c κs within =
    let less = stmt_nodes_within _ _ _ _ c.deref-stmt-items.ensures.value c.stmt-item.is c.loop-stmt-test.true in
    search rules

pub copy_arms-copy_list-requires : goal.copy_arms-copy_list-requires
copy_arms-copy_list-requires g t c κs within =
    let less = arm_nodes_within _ _ _ _ c.deref-arm-items.ensures.value c.arm-item.is c.loop-arm-test.true in
    search rules

pub copy_into-copy_arms-requires : goal.copy_into-copy_arms-requires
copy_into-copy_arms-requires g t c κs within =
    let less = arms_nodes_within c.args.self.now _ _ c.in-Parbegin.is in
    search rules

pub copy_into-returns-in_ok-value-in-Assign : goal.copy_into-returns-in_ok-value-in-Assign
copy_into-returns-in_ok-value-in-Assign g t c =
    let a = c.in-Assign in
    let copy = view-Assign a.line c.in_ok-target-in-Assign.target c.in_ok-value-in-Assign.value in
    let here = ap stmt_view a.is ∙ view-Assign a.line a.target a.value in
    same_assign copy here refl c.in_ok-target-in-Assign.ensures c.in_ok-value-in-Assign.ensures

pub copy_into-returns-in_ok-value-in-Print : goal.copy_into-returns-in_ok-value-in-Print
copy_into-returns-in_ok-value-in-Print g t c =
    let a = c.in-Print in
    let copy = view-Print a.line c.in_ok-value-in-Print.value in
    let here = ap stmt_view a.is ∙ view-Print a.line a.value in
    same_print copy here refl c.in_ok-value-in-Print.ensures

pub copy_into-returns-in_ok-on_false-in-If : goal.copy_into-returns-in_ok-on_false-in-If
copy_into-returns-in_ok-on_false-in-If g t c =
    let a = c.in-If in
    let copy = view-If a.line c.in_ok-test-in-If.test c.in_ok-on_true-in-If.on_true c.in_ok-on_false-in-If.on_false in
    let here = ap stmt_view a.is ∙ view-If a.line a.test a.on_true a.on_false in
    same_if copy here refl c.in_ok-test-in-If.ensures c.in_ok-on_true-in-If.ensures c.in_ok-on_false-in-If.ensures

pub copy_into-returns-in_ok-body-in-While : goal.copy_into-returns-in_ok-body-in-While
copy_into-returns-in_ok-body-in-While g t c =
    let a = c.in-While in
    let copy = view-While a.line c.in_ok-test-in-While.test c.in_ok-body-in-While.body in
    let here = ap stmt_view a.is ∙ view-While a.line a.test a.body in
    same_while copy here refl c.in_ok-test-in-While.ensures c.in_ok-body-in-While.ensures

pub copy_into-returns-in_ok-body-in-Hold : goal.copy_into-returns-in_ok-body-in-Hold
copy_into-returns-in_ok-body-in-Hold g t c =
    let a = c.in-Hold in
    let copy = view-Hold a.line c.in_ok-demands-in-Hold.demands c.in_ok-body-in-Hold.body in
    let here = ap stmt_view a.is ∙ view-Hold a.line a.demands a.body in
    same_hold copy here refl c.in_ok-demands-in-Hold.ensures c.in_ok-body-in-Hold.ensures

pub copy_into-returns-in_ok-arms-in-Parbegin : goal.copy_into-returns-in_ok-arms-in-Parbegin
copy_into-returns-in_ok-arms-in-Parbegin g t c =
    let a = c.in-Parbegin in
    let copy = view-Parbegin a.line c.in_ok-arms-in-Parbegin.arms in
    let here = ap stmt_view a.is ∙ view-Parbegin a.line a.arms in
    same_parbegin copy here refl c.in_ok-arms-in-Parbegin.ensures

pub copy_into-copy_list-requires : goal.copy_into-copy_list-requires
copy_into-copy_list-requires g t c κs within =
    let less = then_nodes_within c.args.self.now _ _ _ _ c.in-If.is in
    search rules

pub copy_into-copy_list-requires-in-If : goal.copy_into-copy_list-requires-in-If
copy_into-copy_list-requires-in-If g t c κs within =
    let less = else_nodes_within c.args.self.now _ _ _ _ c.in-If.is in
    search rules

pub copy_into-copy_list-requires-in-While : goal.copy_into-copy_list-requires-in-While
copy_into-copy_list-requires-in-While g t c κs within =
    let less = repeated_nodes_within c.args.self.now _ _ _ c.in-While.is in
    search rules

pub copy_into-copy_list-requires-in-Hold : goal.copy_into-copy_list-requires-in-Hold
copy_into-copy_list-requires-in-Hold g t c κs within =
    let less = held_nodes_within c.args.self.now _ _ _ c.in-Hold.is in
    search rules
