use Rattle.std.proofs.Common.{arith, rules, ap, ◌∙◌}
use Rattle.std.proofs.lemmas.List.{take_all}
use Rattle.pb_tree.specs.View.{stmt_view}
use Rattle.pb_tree.proofs.Smaller.{stmt_nodes_within, arm_nodes_within, arms_nodes_within}
use Rattle.pb_tree.proofs.Views.{view-Assign, view-Print, view-If, view-While, view-Hold, view-Parbegin}
use Rattle.pb_names.proofs.CausesMore.{stmts_more, arms_more}
use Rattle.pb_names.proofs.FirstCauses.{first_either, first_none}
use Rattle.pb_names.proofs.causes.+causes.Goals as goal

pub first_in_list-loop-stmt-preserved : goal.first_in_list-loop-stmt-preserved
first_in_list-loop-stmt-preserved g t c =
    rw c.earlier-first.ensures
    (stmts_more _ _ c.deref-stmt-items.result.now c.loop-stmt.stmt-index c.stmt-item.result _ _
    (omega arith) c.stmt-item.is c.loop-stmt.invariant c.first_in_stmt.ensures)

pub first_in_arms-loop-arm-preserved : goal.first_in_arms-loop-arm-preserved
first_in_arms-loop-arm-preserved g t c =
    rw c.earlier-first.ensures
    (arms_more _ _ c.deref-arm-items.result.now c.loop-arm.arm-index c.arm-item.result _ _
    (omega arith) c.arm-item.is c.loop-arm.invariant c.first_in_list.ensures)

pub first_in_list-first_in_stmt-requires : goal.first_in_list-first_in_stmt-requires
first_in_list-first_in_stmt-requires g t c κs within =
    let less = stmt_nodes_within _ _ _ _ c.deref-stmt-items.ensures.value c.stmt-item.is (omega arith) in
    search rules

pub first_in_arms-first_in_list-requires : goal.first_in_arms-first_in_list-requires
first_in_arms-first_in_list-requires g t c κs within =
    let less = arm_nodes_within _ _ _ _ c.deref-arm-items.ensures.value c.arm-item.is (omega arith) in
    search rules

pub first_in_stmt-first_in_arms-requires : goal.first_in_stmt-first_in_arms-requires
first_in_stmt-first_in_arms-requires g t c κs within =
    let less = arms_nodes_within c.args.stmt.now _ _ c.in-Parbegin.is in
    search rules

pub first_in_stmt-returns-in-Assign : goal.first_in_stmt-returns-in-Assign
first_in_stmt-returns-in-Assign g t c =
    let a = c.in-Assign in
    rw (ap stmt_view a.is ∙ view-Assign a.line a.target a.value, c.earlier.ensures)
    (first_either _ _ c.first_in_name-in_target.ensures c.first_in_expr.ensures)

pub first_in_stmt-returns-in-If : goal.first_in_stmt-returns-in-If
first_in_stmt-returns-in-If g t c =
    let a = c.in-If in
    rw (ap stmt_view a.is ∙ view-If a.line a.test a.on_true a.on_false, c.earlier-in-If-2.ensures, c.earlier-in-If.ensures)
    (first_either _ _ c.first_in_expr-in_test.ensures
    (first_either _ _ c.first_in_list-in_true.ensures c.first_in_list-in_false.ensures))

pub first_in_stmt-returns-in-While : goal.first_in_stmt-returns-in-While
first_in_stmt-returns-in-While g t c =
    let a = c.in-While in
    rw (ap stmt_view a.is ∙ view-While a.line a.test a.body, c.earlier-in-While.ensures)
    (first_either _ _ c.first_in_expr-in_test-in-While.ensures c.first_in_list.ensures)

pub first_in_stmt-returns-in-Hold : goal.first_in_stmt-returns-in-Hold
first_in_stmt-returns-in-Hold g t c =
    let a = c.in-Hold in
    rw (ap stmt_view a.is ∙ view-Hold a.line a.demands a.body, c.earlier-in-Hold.ensures)
    (first_either _ _ c.first_in_hold-in_demands.ensures c.first_in_list-in-Hold.ensures)

pub first_in_stmt-returns-in-Parbegin : goal.first_in_stmt-returns-in-Parbegin
first_in_stmt-returns-in-Parbegin g t c =
    let a = c.in-Parbegin in
    rw (ap stmt_view a.is ∙ view-Parbegin a.line a.arms)
    c.first_in_arms.ensures

pub first_in_list-loop-stmt-init : goal.first_in_list-loop-stmt-init
first_in_list-loop-stmt-init g t c = first_none _ (λ c never. never)

pub first_in_list-returns : goal.first_in_list-returns
first_in_list-returns g t c =
    rw (← c.deref-stmt-items.ensures.value, ← take_all c.loop-stmt.stmt-index c.deref-stmt-items.result.now (omega arith))
    c.loop-stmt.invariant

pub first_in_arms-loop-arm-init : goal.first_in_arms-loop-arm-init
first_in_arms-loop-arm-init g t c = first_none _ (λ c never. never)

pub first_in_arms-returns : goal.first_in_arms-returns
first_in_arms-returns g t c =
    rw (← c.deref-arm-items.ensures.value, ← take_all c.loop-arm.arm-index c.deref-arm-items.result.now (omega arith))
    c.loop-arm.invariant

pub first_in_stmt-returns-in-Print : goal.first_in_stmt-returns-in-Print
first_in_stmt-returns-in-Print g t c =
    let a = c.in-Print in
    rw (ap stmt_view a.is ∙ view-Print a.line a.value) c.first_in_expr-in-Print.ensures
