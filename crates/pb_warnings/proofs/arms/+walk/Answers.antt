use Rattle.std.proofs.Common.{arith, rules, ap, ◌∙◌}
use Rattle.pb_tree.proofs.Smaller.{stmt_nodes_within, arm_nodes_within, arms_nodes_within}
use Rattle.pb_tree.proofs.Views.{view-Parbegin}
use Rattle.pb_tree.specs.View.{stmt_view}
use Rattle.pb_warnings.specs.Warnings.{lone_in_stmt}
use Rattle.pb_warnings.proofs.Walks.{lone_arms_more, lone_more, lone_then}
use Rattle.pb_warnings.proofs.arms.+walk.Goals as goal

pub add_list-add_stmt-requires : goal.add_list-add_stmt-requires
add_list-add_stmt-requires g t c κs within =
    let less = stmt_nodes_within _ _ _ _ c.deref-stmt-items.ensures.value c.stmt-item.is (omega arith) in
    search rules

pub add_arms-add_list-requires : goal.add_arms-add_list-requires
add_arms-add_list-requires g t c κs within =
    let less = arm_nodes_within _ _ _ _ c.deref-arm-items.ensures.value c.arm-item.is (omega arith) in
    search rules

pub add_stmt-add_arms-requires : goal.add_stmt-add_arms-requires
add_stmt-add_arms-requires g t c κs within =
    let less = arms_nodes_within c.args.stmt.now _ _ c.in-Parbegin.is in
    search rules

pub add_list-loop-stmt-preserved : goal.add_list-loop-stmt-preserved
add_list-loop-stmt-preserved g t c =
    lone_more _ _ _ c.deref-stmt-items.result.now c.loop-stmt.stmt-index c.stmt-item.result c.stmt-item.is
    (omega arith) c.loop-stmt.invariant c.in_ok-add_stmt.ensures

pub add_arms-loop-arm-preserved : goal.add_arms-loop-arm-preserved
add_arms-loop-arm-preserved g t c =
    lone_arms_more _ _ _ c.deref-arm-items.result.now c.loop-arm.arm-index c.arm-item.result c.arm-item.is
    (omega arith) c.loop-arm.invariant c.in_ok-add_list.ensures

pub add_stmt-returns-in_ok-add_lone-in-Parbegin : goal.add_stmt-returns-in_ok-add_lone-in-Parbegin
add_stmt-returns-in_ok-add_lone-in-Parbegin g t c =
    lone_then c.add_arms.result _ _ _ _ _ _ c.in_ok-add_lone-in-Parbegin.ensures
    (ap lone_in_stmt (ap stmt_view c.in-Parbegin.is ∙ view-Parbegin c.in-Parbegin.line c.in-Parbegin.arms)) c.add_arms.ensures
