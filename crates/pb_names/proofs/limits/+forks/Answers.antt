use Rattle.std.proofs.Common.{arith, rules, ap, ◌∙◌}
use Rattle.std.proofs.lemmas.List.{take_all}
use Rattle.pb_tree.specs.View.{stmt_view}
use Rattle.pb_tree.proofs.Smaller.{stmt_nodes_within, arm_nodes_within, arms_nodes_within}
use Rattle.pb_tree.proofs.Views.{view-If, view-While, view-Hold, view-Parbegin}
use Rattle.pb_names.specs.Limits.{widest_in_stmt, inner_arms_of_stmt}
use Rattle.pb_names.proofs.Forks.{width-view, widest_more, inner_more, arms_widest_more, arms_inner_more}
use Rattle.pb_names.proofs.limits.+forks.Goals as goal

pub forks_of_stmt-returns-in-If-clause-widest : goal.forks_of_stmt-returns-in-If-clause-widest
forks_of_stmt-returns-in-If-clause-widest g t c =
    let a = c.in-If in
    omega (arith, ap widest_in_stmt (ap stmt_view a.is ∙ view-If a.line a.test a.on_true a.on_false))

pub forks_of_stmt-returns-in-If-clause-arms : goal.forks_of_stmt-returns-in-If-clause-arms
forks_of_stmt-returns-in-If-clause-arms g t c =
    let a = c.in-If in
    omega (arith, ap inner_arms_of_stmt (ap stmt_view a.is ∙ view-If a.line a.test a.on_true a.on_false))

pub forks_of_stmt-returns-in-While-clause-widest : goal.forks_of_stmt-returns-in-While-clause-widest
forks_of_stmt-returns-in-While-clause-widest g t c =
    let a = c.in-While in
    omega (arith, ap widest_in_stmt (ap stmt_view a.is ∙ view-While a.line a.test a.body))

pub forks_of_stmt-returns-in-While-clause-arms : goal.forks_of_stmt-returns-in-While-clause-arms
forks_of_stmt-returns-in-While-clause-arms g t c =
    let a = c.in-While in
    omega (arith, ap inner_arms_of_stmt (ap stmt_view a.is ∙ view-While a.line a.test a.body))

pub forks_of_stmt-returns-in-Hold-clause-widest : goal.forks_of_stmt-returns-in-Hold-clause-widest
forks_of_stmt-returns-in-Hold-clause-widest g t c =
    let a = c.in-Hold in
    omega (arith, ap widest_in_stmt (ap stmt_view a.is ∙ view-Hold a.line a.demands a.body))

pub forks_of_stmt-returns-in-Hold-clause-arms : goal.forks_of_stmt-returns-in-Hold-clause-arms
forks_of_stmt-returns-in-Hold-clause-arms g t c =
    let a = c.in-Hold in
    omega (arith, ap inner_arms_of_stmt (ap stmt_view a.is ∙ view-Hold a.line a.demands a.body))

pub forks_of_list-returns-clause-widest : goal.forks_of_list-returns-clause-widest
forks_of_list-returns-clause-widest g t c =
    rw (← c.deref-stmt-items.ensures.value, ← take_all c.loop-stmt.stmt-index c.deref-stmt-items.result.now (omega arith))
    c.loop-stmt.invariant.widest

pub forks_of_list-returns-clause-arms : goal.forks_of_list-returns-clause-arms
forks_of_list-returns-clause-arms g t c =
    rw (← c.deref-stmt-items.ensures.value, ← take_all c.loop-stmt.stmt-index c.deref-stmt-items.result.now (omega arith))
    c.loop-stmt.invariant.arms

pub forks_of_arms-returns-clause-widest : goal.forks_of_arms-returns-clause-widest
forks_of_arms-returns-clause-widest g t c =
    rw (← c.deref-arm-items.ensures.value, ← take_all c.loop-arm.arm-index c.deref-arm-items.result.now (omega arith))
    c.loop-arm.invariant.widest

pub forks_of_arms-returns-clause-arms : goal.forks_of_arms-returns-clause-arms
forks_of_arms-returns-clause-arms g t c =
    rw (← c.deref-arm-items.ensures.value, ← take_all c.loop-arm.arm-index c.deref-arm-items.result.now (omega arith))
    c.loop-arm.invariant.arms

pub forks_of_stmt-returns-in-Parbegin-clause-widest : goal.forks_of_stmt-returns-in-Parbegin-clause-widest
forks_of_stmt-returns-in-Parbegin-clause-widest g t c =
    let a = c.in-Parbegin in
    omega (
      arith,
      width-view a.arms.items,
      ap widest_in_stmt (ap stmt_view a.is ∙ view-Parbegin a.line a.arms),
    )

pub forks_of_stmt-returns-in-Parbegin-clause-arms : goal.forks_of_stmt-returns-in-Parbegin-clause-arms
forks_of_stmt-returns-in-Parbegin-clause-arms g t c =
    let a = c.in-Parbegin in
    omega (
      arith,
      width-view a.arms.items,
      ap inner_arms_of_stmt (ap stmt_view a.is ∙ view-Parbegin a.line a.arms),
    )

pub forks_of_list-loop-stmt-preserved : goal.forks_of_list-loop-stmt-preserved
forks_of_list-loop-stmt-preserved g t c =
    let items = c.deref-stmt-items.result.now in
    let i = c.loop-stmt.stmt-index in
    let widest = widest_more items i c.stmt-item.result c.stmt-item.is (omega arith) in
    let inner = inner_more items i c.stmt-item.result c.stmt-item.is (omega arith) in
    record { widest = omega arith; arms = omega arith }

pub forks_of_arms-loop-arm-preserved : goal.forks_of_arms-loop-arm-preserved
forks_of_arms-loop-arm-preserved g t c =
    let items = c.deref-arm-items.result.now in
    let i = c.loop-arm.arm-index in
    let widest = arms_widest_more items i c.arm-item.result c.arm-item.is (omega arith) in
    let inner = arms_inner_more items i c.arm-item.result c.arm-item.is (omega arith) in
    record { widest = omega arith; arms = omega arith }

pub forks_of_list-forks_of_stmt-requires : goal.forks_of_list-forks_of_stmt-requires
forks_of_list-forks_of_stmt-requires g t c κs within =
    let less = stmt_nodes_within _ _ _ _ c.deref-stmt-items.ensures.value c.stmt-item.is (omega arith) in
    search rules

pub forks_of_arms-forks_of_list-requires : goal.forks_of_arms-forks_of_list-requires
forks_of_arms-forks_of_list-requires g t c κs within =
    let less = arm_nodes_within _ _ _ _ c.deref-arm-items.ensures.value c.arm-item.is (omega arith) in
    search rules

pub forks_of_stmt-forks_of_arms-requires : goal.forks_of_stmt-forks_of_arms-requires
forks_of_stmt-forks_of_arms-requires g t c κs within =
    let less = arms_nodes_within c.args.stmt.now _ _ c.in-Parbegin.is in
    search rules
