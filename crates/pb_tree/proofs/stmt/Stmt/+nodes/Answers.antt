use borrow.Author.Count.{falls}
use Rattle.std.proofs.Common.{arith, rules, ap, ◌∙◌}
use Rattle.pb_tree.specs.Measure.{saturated, stmt_nodes, stmts_nodes, arms_nodes}
use Rattle.pb_tree.specs.View.{stmt_view, stmts_view, arms_view}
use Rattle.pb_tree.proofs.Copies.{read_all}
use Rattle.pb_tree.proofs.Smaller.{stmt_nodes_within, arm_nodes_within, arms_nodes_within, then_nodes_within, else_nodes_within}
use Rattle.pb_tree.proofs.Smaller.{repeated_nodes_within, held_nodes_within}
use Rattle.pb_tree.proofs.Sums.{nodes_more, arms_nodes_more}
use Rattle.pb_tree.proofs.Views.{view-Assign, view-Print, view-If, view-While, view-Hold, view-Parbegin}
use Rattle.pb_tree.proofs.stmt.Stmt.+nodes.Goals as goal

pub nodes-returns-in-Parbegin : goal.nodes-returns-in-Parbegin
nodes-returns-in-Parbegin g t c =
    omega (
      arith,
      ap stmt_nodes (ap stmt_view c.in-Parbegin.is ∙ view-Parbegin c.in-Parbegin.line c.in-Parbegin.arms),
    )

pub list_nodes-loop-stmt-preserved : goal.list_nodes-loop-stmt-preserved
list_nodes-loop-stmt-preserved g t c =
    omega (
      arith,
      nodes_more c.deref-stmt-items.result.now c.loop-stmt.stmt-index
          c.stmt-item.result c.stmt-item.is c.loop-stmt-test.true,
    )

pub arms_nodes-loop-arm-preserved : goal.arms_nodes-loop-arm-preserved
arms_nodes-loop-arm-preserved g t c =
    omega (
      arith,
      arms_nodes_more c.deref-arm-items.result.now c.loop-arm.arm-index
          c.arm-item.result c.arm-item.is c.loop-arm-test.true,
    )

pub list_nodes-nodes-requires : goal.list_nodes-nodes-requires
list_nodes-nodes-requires g t c κs within =
    let less = stmt_nodes_within _ _ _ _ c.deref-stmt-items.ensures.value c.stmt-item.is c.loop-stmt-test.true in
    search rules

pub arms_nodes-list_nodes-requires : goal.arms_nodes-list_nodes-requires
arms_nodes-list_nodes-requires g t c κs within =
    let less = arm_nodes_within _ _ _ _ c.deref-arm-items.ensures.value c.arm-item.is c.loop-arm-test.true in
    search rules

pub nodes-arms_nodes-requires : goal.nodes-arms_nodes-requires
nodes-arms_nodes-requires g t c κs within =
    let less = arms_nodes_within c.args.self.now _ _ c.in-Parbegin.is in
    search rules

pub nodes-returns-in-Assign : goal.nodes-returns-in-Assign
nodes-returns-in-Assign g t c =
    let a = c.in-Assign in
    omega (arith, ap stmt_nodes (ap stmt_view a.is ∙ view-Assign a.line a.target a.value))

pub nodes-returns-in-Print : goal.nodes-returns-in-Print
nodes-returns-in-Print g t c =
    let a = c.in-Print in
    omega (arith, ap stmt_nodes (ap stmt_view a.is ∙ view-Print a.line a.value))

pub nodes-returns-in-If : goal.nodes-returns-in-If
nodes-returns-in-If g t c =
    let a = c.in-If in
    omega (arith, ap stmt_nodes (ap stmt_view a.is ∙ view-If a.line a.test a.on_true a.on_false))

pub nodes-returns-in-While : goal.nodes-returns-in-While
nodes-returns-in-While g t c =
    let a = c.in-While in
    omega (arith, ap stmt_nodes (ap stmt_view a.is ∙ view-While a.line a.test a.body))

pub nodes-returns-in-Hold : goal.nodes-returns-in-Hold
nodes-returns-in-Hold g t c =
    let a = c.in-Hold in
    omega (arith, ap stmt_nodes (ap stmt_view a.is ∙ view-Hold a.line a.demands a.body))

pub nodes-list_nodes-requires : goal.nodes-list_nodes-requires
nodes-list_nodes-requires g t c κs within =
    let less = then_nodes_within c.args.self.now _ _ _ _ c.in-If.is in
    search rules

pub nodes-list_nodes-requires-in-If : goal.nodes-list_nodes-requires-in-If
nodes-list_nodes-requires-in-If g t c κs within =
    let less = else_nodes_within c.args.self.now _ _ _ _ c.in-If.is in
    search rules

pub nodes-list_nodes-requires-in-While : goal.nodes-list_nodes-requires-in-While
nodes-list_nodes-requires-in-While g t c κs within =
    let less = repeated_nodes_within c.args.self.now _ _ _ c.in-While.is in
    search rules

pub nodes-list_nodes-requires-in-Hold : goal.nodes-list_nodes-requires-in-Hold
nodes-list_nodes-requires-in-Hold g t c κs within =
    let less = held_nodes_within c.args.self.now _ _ _ c.in-Hold.is in
    search rules

pub list_nodes-loop-stmt-smaller : goal.list_nodes-loop-stmt-smaller
list_nodes-loop-stmt-smaller g t c = falls _ _ c.loop-stmt-test.true

pub list_nodes-returns : goal.list_nodes-returns
list_nodes-returns g t c =
    read_all (λ xs. saturated (stmts_nodes (stmts_view xs))) _ _ _ _
    c.loop-stmt.invariant c.loop-stmt-test.false c.deref-stmt-items.ensures.value

pub arms_nodes-loop-arm-smaller : goal.arms_nodes-loop-arm-smaller
arms_nodes-loop-arm-smaller g t c = falls _ _ c.loop-arm-test.true

pub arms_nodes-returns : goal.arms_nodes-returns
arms_nodes-returns g t c =
    read_all (λ xs. saturated (arms_nodes (arms_view xs))) _ _ _ _
    c.loop-arm.invariant c.loop-arm-test.false c.deref-arm-items.ensures.value
