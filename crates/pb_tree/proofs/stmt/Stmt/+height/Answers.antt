use borrow.Author.Count.{falls}
use Rattle.std.proofs.Common.{arith, rules, ap, ◌∙◌}
use Rattle.pb_tree.specs.Measure.{saturated, stmt_height, stmts_height, arms_height}
use Rattle.pb_tree.specs.View.{stmt_view, stmts_view, arms_view}
use Rattle.pb_tree.proofs.Copies.{read_all}
use Rattle.pb_tree.proofs.Smaller.{stmt_nodes_within, arm_nodes_within, arms_nodes_within, then_nodes_within, else_nodes_within}
use Rattle.pb_tree.proofs.Smaller.{repeated_nodes_within, held_nodes_within}
use Rattle.pb_tree.proofs.Sums.{height_more, arms_height_more}
use Rattle.pb_tree.proofs.Views.{view-Assign, view-Print, view-If, view-While, view-Hold, view-Parbegin}
use Rattle.pb_tree.proofs.stmt.Stmt.+height.Goals as goal

pub height-returns-in-Parbegin : goal.height-returns-in-Parbegin
height-returns-in-Parbegin g t c =
    omega (
      arith,
      ap stmt_height (ap stmt_view c.in-Parbegin.is ∙ view-Parbegin c.in-Parbegin.line c.in-Parbegin.arms),
    )

pub list_height-loop-stmt-preserved : goal.list_height-loop-stmt-preserved
list_height-loop-stmt-preserved g t c =
    omega (
      arith,
      height_more c.deref-stmt-items.result.now c.loop-stmt.stmt-index
          c.stmt-item.result c.stmt-item.is c.loop-stmt-test.true,
    )

pub arms_height-loop-arm-preserved : goal.arms_height-loop-arm-preserved
arms_height-loop-arm-preserved g t c =
    omega (
      arith,
      arms_height_more c.deref-arm-items.result.now c.loop-arm.arm-index
          c.arm-item.result c.arm-item.is c.loop-arm-test.true,
    )

pub list_height-height-requires : goal.list_height-height-requires
list_height-height-requires g t c κs within =
    let less = stmt_nodes_within _ _ _ _ c.deref-stmt-items.ensures.value c.stmt-item.is c.loop-stmt-test.true in
    search rules

pub arms_height-list_height-requires : goal.arms_height-list_height-requires
arms_height-list_height-requires g t c κs within =
    let less = arm_nodes_within _ _ _ _ c.deref-arm-items.ensures.value c.arm-item.is c.loop-arm-test.true in
    search rules

pub height-arms_height-requires : goal.height-arms_height-requires
height-arms_height-requires g t c κs within =
    let less = arms_nodes_within c.args.self.now _ _ c.in-Parbegin.is in
    search rules

pub height-returns-in-Assign : goal.height-returns-in-Assign
height-returns-in-Assign g t c =
    let a = c.in-Assign in
    omega (arith, ap stmt_height (ap stmt_view a.is ∙ view-Assign a.line a.target a.value))

pub height-returns-in-Print : goal.height-returns-in-Print
height-returns-in-Print g t c =
    let a = c.in-Print in
    omega (arith, ap stmt_height (ap stmt_view a.is ∙ view-Print a.line a.value))

pub height-returns-in-If : goal.height-returns-in-If
height-returns-in-If g t c =
    let a = c.in-If in
    omega (arith, ap stmt_height (ap stmt_view a.is ∙ view-If a.line a.test a.on_true a.on_false))

pub height-returns-in-While : goal.height-returns-in-While
height-returns-in-While g t c =
    let a = c.in-While in
    omega (arith, ap stmt_height (ap stmt_view a.is ∙ view-While a.line a.test a.body))

pub height-returns-in-Hold : goal.height-returns-in-Hold
height-returns-in-Hold g t c =
    let a = c.in-Hold in
    omega (arith, ap stmt_height (ap stmt_view a.is ∙ view-Hold a.line a.demands a.body))

pub height-list_height-requires : goal.height-list_height-requires
height-list_height-requires g t c κs within =
    let less = then_nodes_within c.args.self.now _ _ _ _ c.in-If.is in
    search rules

pub height-list_height-requires-in-If : goal.height-list_height-requires-in-If
height-list_height-requires-in-If g t c κs within =
    let less = else_nodes_within c.args.self.now _ _ _ _ c.in-If.is in
    search rules

pub height-list_height-requires-in-While : goal.height-list_height-requires-in-While
height-list_height-requires-in-While g t c κs within =
    let less = repeated_nodes_within c.args.self.now _ _ _ c.in-While.is in
    search rules

pub height-list_height-requires-in-Hold : goal.height-list_height-requires-in-Hold
height-list_height-requires-in-Hold g t c κs within =
    let less = held_nodes_within c.args.self.now _ _ _ c.in-Hold.is in
    search rules

pub list_height-loop-stmt-smaller : goal.list_height-loop-stmt-smaller
list_height-loop-stmt-smaller g t c = falls _ _ c.loop-stmt-test.true

pub list_height-returns : goal.list_height-returns
list_height-returns g t c =
    read_all (λ xs. saturated (stmts_height (stmts_view xs))) _ _ _ _
    c.loop-stmt.invariant c.loop-stmt-test.false c.deref-stmt-items.ensures.value

pub arms_height-loop-arm-smaller : goal.arms_height-loop-arm-smaller
arms_height-loop-arm-smaller g t c = falls _ _ c.loop-arm-test.true

pub arms_height-returns : goal.arms_height-returns
arms_height-returns g t c =
    read_all (λ xs. saturated (arms_height (arms_view xs))) _ _ _ _
    c.loop-arm.invariant c.loop-arm-test.false c.deref-arm-items.ensures.value
