use borrow.Author.Count.{falls}
use Rattle.std.proofs.Common.{arith, rules, ap, sym, refl, ◌∙◌}
use Rattle.pb_tree.specs.Syntax.{stmt_line}
use Rattle.pb_tree.specs.View.{stmt_view, stmts_of, arm_view, joined_arms}
use Rattle.pb_tree.proofs.Equal.{not_both, same_stmts, same_arms, same_length, same_read, same_step, same_all}
use Rattle.pb_tree.proofs.Smaller.{stmt_nodes_within, arm_nodes_within, arms_nodes_within, then_nodes_within, else_nodes_within}
use Rattle.pb_tree.proofs.Smaller.{repeated_nodes_within, held_nodes_within}
use Rattle.pb_tree.proofs.StmtShapes.{only_Assign, only_Print, only_If, only_While, only_Hold, only_Parbegin}
use Rattle.pb_tree.proofs.StmtShapes.{same_lines, other_lines, same_assign, assign_targets, assign_values}
use Rattle.pb_tree.proofs.StmtShapes.{same_print, print_values, same_if, if_tests, if_trues, if_falses}
use Rattle.pb_tree.proofs.StmtShapes.{same_while, while_tests, while_bodies, same_hold, hold_demands}
use Rattle.pb_tree.proofs.StmtShapes.{hold_bodies, same_parbegin, parbegin_arms}
use Rattle.pb_tree.proofs.Views.{view-Assign, view-Print, view-If, view-While, view-Hold, view-Parbegin}
use Rattle.pb_tree.proofs.stmt.Stmt.+same.Goals as goal

pub same-same_arms-requires : goal.same-same_arms-requires
same-same_arms-requires g t c κs within =
    let less = arms_nodes_within c.args.self.now _ _ c.in-Parbegin-Parbegin.is-0 in
    search rules

pub same_list-same-requires : goal.same_list-same-requires
same_list-same-requires g t c κs within =
    let less = stmt_nodes_within _ _ _ _ c.deref-stmt-items.ensures.value c.stmt-item.is c.loop-i-test.true in
    search rules

pub same_arms-same_list-requires : goal.same_arms-same_list-requires
same_arms-same_list-requires g t c κs within =
    let less = arm_nodes_within _ _ _ _ c.deref-arm-items.ensures.value c.arm-item.is c.loop-i-test.true in
    search rules

pub same_list-returns-then-len : goal.same_list-returns-then-len
same_list-returns-then-len g t c = (
  λ never. not_both refl never,
  λ e.
      let lengths =
      same_length stmt_view stmt_view c.args.stmts.now.items c.args.others.now.items (same_stmts _ _ e)
      in
      absurd (c.if-len.true (omega arith)),
)

pub same_list-returns-then-not-same : goal.same_list-returns-then-not-same
same_list-returns-then-not-same g t c = (
  λ never. not_both refl never,
  λ e.
      let here =
      same_read stmt_view stmt_view _ _ _ _ _ _ (same_stmts _ _ e) c.deref-stmt-items.ensures.value
      c.loop-i-test.true (omega arith) c.stmt-item.is c.index.ensures
      in
      not_both c.if-not-same.true (c.same.ensures.1 here),
)

pub same_list-loop-i-preserved : goal.same_list-loop-i-preserved
same_list-loop-i-preserved g t c =
    same_step stmt_view stmt_view _ _ _ _ c.stmt-item.result c.index.result.now c.loop-i.invariant
    (c.same.ensures.0 c.if-not-same.false) c.deref-stmt-items.ensures.value
    c.loop-i-test.true (omega arith) c.stmt-item.is c.index.ensures

pub same_list-loop-i-smaller : goal.same_list-loop-i-smaller
same_list-loop-i-smaller g t c = falls _ _ c.loop-i-test.true

pub same_list-returns : goal.same_list-returns
same_list-returns g t c = (
  λ yes.
      ap stmts_of (
      same_all stmt_view stmt_view _ _ _ _ c.loop-i.invariant c.deref-stmt-items.ensures.value
      c.loop-i-test.false (omega arith)
      ),
  λ e. refl,
)

pub same_arms-returns-then-len : goal.same_arms-returns-then-len
same_arms-returns-then-len g t c = (
  λ never. not_both refl never,
  λ e.
      let lengths =
      same_length arm_view arm_view c.args.arms.now.items c.args.others.now.items (same_arms _ _ e)
      in
      absurd (c.if-len.true (omega arith)),
)

pub same_arms-returns-then-not-same_list : goal.same_arms-returns-then-not-same_list
unfolding arm_view
same_arms-returns-then-not-same_list g t c = (
  λ never. not_both refl never,
  λ e.
      let here =
      same_read arm_view arm_view _ _ _ _ _ _ (same_arms _ _ e) c.deref-arm-items.ensures.value
      c.loop-i-test.true (omega arith) c.arm-item.is c.index.ensures
      in
      not_both c.if-not-same_list.true (c.same_list.ensures.1 here),
)

pub same_arms-loop-i-preserved : goal.same_arms-loop-i-preserved
unfolding arm_view
same_arms-loop-i-preserved g t c =
    same_step arm_view arm_view _ _ _ _ c.arm-item.result c.index.result.now c.loop-i.invariant
    (c.same_list.ensures.0 c.if-not-same_list.false) c.deref-arm-items.ensures.value
    c.loop-i-test.true (omega arith) c.arm-item.is c.index.ensures

pub same_arms-loop-i-smaller : goal.same_arms-loop-i-smaller
same_arms-loop-i-smaller g t c = falls _ _ c.loop-i-test.true

pub same_arms-returns : goal.same_arms-returns
same_arms-returns g t c = (
  λ yes.
      ap joined_arms (
      same_all arm_view arm_view _ _ _ _ c.loop-i.invariant c.deref-arm-items.ensures.value
      c.loop-i-test.false (omega arith)
      ),
  λ e. refl,
)

pub same-returns-then-line_of : goal.same-returns-then-line_of
same-returns-then-line_of g t c = (
  λ never. not_both refl never,
  λ same.
      absurd (
      other_lines (stmt_view c.args.self.now) (stmt_view c.args.other.now)
      c.line_of.ensures c.line_of-2.ensures c.if-line_of.true same
      ),
)

pub same-returns-then-same : goal.same-returns-then-same
same-returns-then-same g t c =
    let a = c.in-Assign-Assign in
    let left = ap stmt_view a.is-0 ∙ view-Assign a.line-0 a.target a.value in
    let right = ap stmt_view a.is-1 ∙ view-Assign a.line-1 a.other_target a.other_value in
    let lines =
    same_lines (stmt_view c.args.self.now) (stmt_view c.args.other.now)
    c.line_of.ensures c.line_of-2.ensures c.if-line_of.false
    in
    let line = sym (ap stmt_line left) ∙ lines ∙ ap stmt_line right in (
      λ yes. same_assign left right line (c.same.ensures.0 c.if-same.true) (c.same-then-same.ensures.0 yes),
      λ same. c.same-then-same.ensures.1 (assign_values left right same),
    )

pub same-returns-else-same : goal.same-returns-else-same
same-returns-else-same g t c =
    let a = c.in-Assign-Assign in
    let left = ap stmt_view a.is-0 ∙ view-Assign a.line-0 a.target a.value in
    let right = ap stmt_view a.is-1 ∙ view-Assign a.line-1 a.other_target a.other_value in (
      λ never. not_both {b = c.same.result} c.if-same.false never,
      λ same. c.same.ensures.1 (assign_targets left right same),
    )

pub same-returns-in-Print-Print : goal.same-returns-in-Print-Print
same-returns-in-Print-Print g t c =
    let a = c.in-Print-Print in
    let left = ap stmt_view a.is-0 ∙ view-Print a.line-0 a.value in
    let right = ap stmt_view a.is-1 ∙ view-Print a.line-1 a.other_value in
    let lines =
    same_lines (stmt_view c.args.self.now) (stmt_view c.args.other.now)
    c.line_of.ensures c.line_of-2.ensures c.if-line_of.false
    in
    let line = sym (ap stmt_line left) ∙ lines ∙ ap stmt_line right in (
      λ yes. same_print left right line (c.same-in-Print-Print.ensures.0 yes),
      λ same. c.same-in-Print-Print.ensures.1 (print_values left right same),
    )

pub same-returns-then-same_list : goal.same-returns-then-same_list
same-returns-then-same_list g t c =
    let a = c.in-If-If in
    let left = ap stmt_view a.is-0 ∙ view-If a.line-0 a.test a.on_true a.on_false in
    let right = ap stmt_view a.is-1 ∙ view-If a.line-1 a.other_test a.other_true a.other_false in
    let lines =
    same_lines (stmt_view c.args.self.now) (stmt_view c.args.other.now)
    c.line_of.ensures c.line_of-2.ensures c.if-line_of.false
    in
    let line = sym (ap stmt_line left) ∙ lines ∙ ap stmt_line right in (
      λ yes. same_if left right line (c.same-in-If-If.ensures.0 c.if-same-2.true)
          (c.same_list.ensures.0 c.if-same_list.true) (c.same_list-then-same_list.ensures.0 yes),
      λ same. c.same_list-then-same_list.ensures.1 (if_falses left right same),
    )

pub same-returns-else-same_list : goal.same-returns-else-same_list
same-returns-else-same_list g t c =
    let a = c.in-If-If in
    let left = ap stmt_view a.is-0 ∙ view-If a.line-0 a.test a.on_true a.on_false in
    let right = ap stmt_view a.is-1 ∙ view-If a.line-1 a.other_test a.other_true a.other_false in (
      λ never. not_both {b = c.same_list.result} c.if-same_list.false never,
      λ same. c.same_list.ensures.1 (if_trues left right same),
    )

pub same-returns-else-same-2 : goal.same-returns-else-same-2
same-returns-else-same-2 g t c =
    let a = c.in-If-If in
    let left = ap stmt_view a.is-0 ∙ view-If a.line-0 a.test a.on_true a.on_false in
    let right = ap stmt_view a.is-1 ∙ view-If a.line-1 a.other_test a.other_true a.other_false in (
      λ never. not_both {b = c.same-in-If-If.result} c.if-same-2.false never,
      λ same. c.same-in-If-If.ensures.1 (if_tests left right same),
    )

pub same-returns-then-same-3 : goal.same-returns-then-same-3
same-returns-then-same-3 g t c =
    let a = c.in-While-While in
    let left = ap stmt_view a.is-0 ∙ view-While a.line-0 a.test a.body in
    let right = ap stmt_view a.is-1 ∙ view-While a.line-1 a.other_test a.other_body in
    let lines =
    same_lines (stmt_view c.args.self.now) (stmt_view c.args.other.now)
    c.line_of.ensures c.line_of-2.ensures c.if-line_of.false
    in
    let line = sym (ap stmt_line left) ∙ lines ∙ ap stmt_line right in (
      λ yes. same_while left right line (c.same-in-While-While.ensures.0 c.if-same-3.true) (c.same_list-then-same-3.ensures.0 yes),
      λ same. c.same_list-then-same-3.ensures.1 (while_bodies left right same),
    )

pub same-returns-else-same-3 : goal.same-returns-else-same-3
same-returns-else-same-3 g t c =
    let a = c.in-While-While in
    let left = ap stmt_view a.is-0 ∙ view-While a.line-0 a.test a.body in
    let right = ap stmt_view a.is-1 ∙ view-While a.line-1 a.other_test a.other_body in (
      λ never. not_both {b = c.same-in-While-While.result} c.if-same-3.false never,
      λ same. c.same-in-While-While.ensures.1 (while_tests left right same),
    )

pub same-returns-then-same_demands : goal.same-returns-then-same_demands
same-returns-then-same_demands g t c =
    let a = c.in-Hold-Hold in
    let left = ap stmt_view a.is-0 ∙ view-Hold a.line-0 a.demands a.body in
    let right = ap stmt_view a.is-1 ∙ view-Hold a.line-1 a.other_demands a.other_body in
    let lines =
    same_lines (stmt_view c.args.self.now) (stmt_view c.args.other.now)
    c.line_of.ensures c.line_of-2.ensures c.if-line_of.false
    in
    let line = sym (ap stmt_line left) ∙ lines ∙ ap stmt_line right in (
      λ yes. same_hold left right line (c.same_demands.ensures.0 c.if-same_demands.true) (c.same_list-then-same_demands.ensures.0 yes),
      λ same. c.same_list-then-same_demands.ensures.1 (hold_bodies left right same),
    )

pub same-returns-else-same_demands : goal.same-returns-else-same_demands
same-returns-else-same_demands g t c =
    let a = c.in-Hold-Hold in
    let left = ap stmt_view a.is-0 ∙ view-Hold a.line-0 a.demands a.body in
    let right = ap stmt_view a.is-1 ∙ view-Hold a.line-1 a.other_demands a.other_body in (
      λ never. not_both {b = c.same_demands.result} c.if-same_demands.false never,
      λ same. c.same_demands.ensures.1 (hold_demands left right same),
    )

pub same-returns-in-Parbegin-Parbegin : goal.same-returns-in-Parbegin-Parbegin
same-returns-in-Parbegin-Parbegin g t c =
    let a = c.in-Parbegin-Parbegin in
    let left = ap stmt_view a.is-0 ∙ view-Parbegin a.line-0 a.arms in
    let right = ap stmt_view a.is-1 ∙ view-Parbegin a.line-1 a.other_arms in
    let lines =
    same_lines (stmt_view c.args.self.now) (stmt_view c.args.other.now)
    c.line_of.ensures c.line_of-2.ensures c.if-line_of.false
    in
    let line = sym (ap stmt_line left) ∙ lines ∙ ap stmt_line right in (
      λ yes. same_parbegin left right line (c.same_arms.ensures.0 yes),
      λ same. c.same_arms.ensures.1 (parbegin_arms left right same),
    )

pub same-returns-in_default : goal.same-returns-in_default
same-returns-in_default g t c =
    let a = c.in_default in
    let view = ap stmt_view a.is-0 ∙ view-Assign a.field-0-0 a.field-1-0 a.field-2-0 in (
      λ never. not_both refl never,
      λ same. absurd (only_Assign _ _ _ _ (sym same ∙ view) a.not-Assign-1),
    )

pub same-returns-in_default-2 : goal.same-returns-in_default-2
same-returns-in_default-2 g t c =
    let a = c.in_default in
    let view = ap stmt_view a.is-0 ∙ view-Print a.field-0-0 a.field-1-0 in (
      λ never. not_both refl never,
      λ same. absurd (only_Print _ _ _ (sym same ∙ view) a.not-Print-1),
    )

pub same-returns-in_default-3 : goal.same-returns-in_default-3
same-returns-in_default-3 g t c =
    let a = c.in_default in
    let view = ap stmt_view a.is-0 ∙ view-If a.field-0-0 a.field-1-0 a.field-2-0 a.field-3-0 in (
      λ never. not_both refl never,
      λ same. absurd (only_If _ _ _ _ _ (sym same ∙ view) a.not-If-1),
    )

pub same-returns-in_default-4 : goal.same-returns-in_default-4
same-returns-in_default-4 g t c =
    let a = c.in_default in
    let view = ap stmt_view a.is-0 ∙ view-While a.field-0-0 a.field-1-0 a.field-2-0 in (
      λ never. not_both refl never,
      λ same. absurd (only_While _ _ _ _ (sym same ∙ view) a.not-While-1),
    )

pub same-returns-in_default-5 : goal.same-returns-in_default-5
same-returns-in_default-5 g t c =
    let a = c.in_default in
    let view = ap stmt_view a.is-0 ∙ view-Hold a.field-0-0 a.field-1-0 a.field-2-0 in (
      λ never. not_both refl never,
      λ same. absurd (only_Hold _ _ _ _ (sym same ∙ view) a.not-Hold-1),
    )

pub same-returns-in_default-6 : goal.same-returns-in_default-6
same-returns-in_default-6 g t c =
    let a = c.in_default in
    let view = ap stmt_view a.is-0 ∙ view-Parbegin a.field-0-0 a.field-1-0 in (
      λ never. not_both refl never,
      λ same. absurd (only_Parbegin _ _ _ (sym same ∙ view) a.not-Parbegin-1),
    )

pub same-same_list-requires : goal.same-same_list-requires
same-same_list-requires g t c κs within =
    let less = then_nodes_within c.args.self.now _ _ _ _ c.in-If-If.is-0 in
    search rules

pub same-same_list-requires-then-same_list : goal.same-same_list-requires-then-same_list
same-same_list-requires-then-same_list g t c κs within =
    let less = else_nodes_within c.args.self.now _ _ _ _ c.in-If-If.is-0 in
    search rules

pub same-same_list-requires-then-same-3 : goal.same-same_list-requires-then-same-3
same-same_list-requires-then-same-3 g t c κs within =
    let less = repeated_nodes_within c.args.self.now _ _ _ c.in-While-While.is-0 in
    search rules

pub same-same_list-requires-then-same_demands : goal.same-same_list-requires-then-same_demands
same-same_list-requires-then-same_demands g t c κs within =
    let less = held_nodes_within c.args.self.now _ _ _ c.in-Hold-Hold.is-0 in
    search rules
