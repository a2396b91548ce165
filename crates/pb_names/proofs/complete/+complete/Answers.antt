use Rattle.std.proofs.Common.{arith, rules, ap, sym, ◌∙◌, refl}
use Rattle.std.proofs.lemmas.List.{take_all, length-map}
use Rattle.pb_tree.proofs.Smaller.{stmt_nodes_within, arm_nodes_within, arms_nodes_within}
use Rattle.pb_tree.specs.View.{demand_view, stmt_view}
use Rattle.pb_names.proofs.Forks.{width-view}
use Rattle.pb_tree.proofs.Views.{view-If, view-While, view-Hold, view-Parbegin}
use Rattle.pb_names.proofs.Completeness.{some_inside, none_inside, first_not, pairs_at, pairs_more, arm_pairs_at}
use Rattle.pb_names.proofs.Completeness.{arm_pairs_more}
use Rattle.pb_names.proofs.complete.+complete.Goals as goal

pub are_complete-returns-then-not-is_complete_stmt : goal.are_complete-returns-then-not-is_complete_stmt
are_complete-returns-then-not-is_complete_stmt g t c = (
  λ never. absurd (cc),
  λ whole.
      let one = pairs_at _ _ _ _ c.deref-stmt-items.ensures.value (omega arith) c.stmt-item.is whole in
      let yes = c.is_complete_stmt.ensures.1 one in
      grind arith,
)

pub are_complete-loop-stmt-preserved : goal.are_complete-loop-stmt-preserved
are_complete-loop-stmt-preserved g t c =
    pairs_more _ _ _ (omega arith) c.stmt-item.is c.loop-stmt.invariant (c.is_complete_stmt.ensures.0 (grind arith))

pub are_complete_arms-returns-then-not-are_complete : goal.are_complete_arms-returns-then-not-are_complete
are_complete_arms-returns-then-not-are_complete g t c = (
  λ never. absurd (cc),
  λ whole.
      let one = arm_pairs_at _ _ _ _ c.deref-arm-items.ensures.value (omega arith) c.arm-item.is whole in
      let yes = c.are_complete.ensures.1 one in
      grind arith,
)

pub are_complete_arms-loop-arm-preserved : goal.are_complete_arms-loop-arm-preserved
are_complete_arms-loop-arm-preserved g t c =
    arm_pairs_more _ _ _ (omega arith) c.arm-item.is c.loop-arm.invariant (c.are_complete.ensures.0 (grind arith))

pub are_complete-is_complete_stmt-requires : goal.are_complete-is_complete_stmt-requires
are_complete-is_complete_stmt-requires g t c κs within =
    let less = stmt_nodes_within _ _ _ _ c.deref-stmt-items.ensures.value c.stmt-item.is (omega arith) in
    search rules

pub are_complete_arms-are_complete-requires : goal.are_complete_arms-are_complete-requires
are_complete_arms-are_complete-requires g t c κs within =
    let less = arm_nodes_within _ _ _ _ c.deref-arm-items.ensures.value c.arm-item.is (omega arith) in
    search rules

pub is_complete_stmt-are_complete_arms-requires : goal.is_complete_stmt-are_complete_arms-requires
is_complete_stmt-are_complete_arms-requires g t c κs within =
    let less = arms_nodes_within c.args.stmt.now _ _ c.in-Parbegin.is in
    search rules

pub is_complete_stmt-returns-then-not-is_empty-2 : goal.is_complete_stmt-returns-then-not-is_empty-2
is_complete_stmt-returns-then-not-is_empty-2 g t c =
    let a = c.in-Parbegin in
    rw (ap stmt_view a.is ∙ view-Parbegin a.line a.arms)
    (some_inside _ _ _ _ c.is_empty-in-Parbegin.ensures c.if-not-is_empty-2.true (width-view a.arms.items ∙ sym a.arms.ok.0)
    c.are_complete_arms.ensures)

pub is_complete_stmt-returns-else-not-is_empty-2 : goal.is_complete_stmt-returns-else-not-is_empty-2
is_complete_stmt-returns-else-not-is_empty-2 g t c =
    let a = c.in-Parbegin in
    rw (ap stmt_view a.is ∙ view-Parbegin a.line a.arms)
    (none_inside _ _ _ c.is_empty-in-Parbegin.ensures c.if-not-is_empty-2.false (width-view a.arms.items ∙ sym a.arms.ok.0))

pub are_complete-returns : goal.are_complete-returns
are_complete-returns g t c = (
  λ yes.
      rw (← c.deref-stmt-items.ensures.value, ← take_all c.loop-stmt.stmt-index c.deref-stmt-items.result.now (omega arith))
      c.loop-stmt.invariant,
  λ whole. refl,
)

pub are_complete_arms-returns : goal.are_complete_arms-returns
are_complete_arms-returns g t c = (
  λ yes.
      rw (← c.deref-arm-items.ensures.value, ← take_all c.loop-arm.arm-index c.deref-arm-items.result.now (omega arith))
      c.loop-arm.invariant,
  λ whole. refl,
)

pub is_complete_stmt-returns-then-are_complete : goal.is_complete_stmt-returns-then-are_complete
is_complete_stmt-returns-then-are_complete g t c =
    let a = c.in-If in
    let both = c.are_complete-then-are_complete.ensures in
    rw (ap stmt_view a.is ∙ view-If a.line a.test a.on_true a.on_false)
    (λ yes. (c.are_complete.ensures.0 c.if-are_complete.true, both.0 yes), λ whole. both.1 whole.1)

pub is_complete_stmt-returns-else-are_complete : goal.is_complete_stmt-returns-else-are_complete
is_complete_stmt-returns-else-are_complete g t c =
    let a = c.in-If in
    rw (ap stmt_view a.is ∙ view-If a.line a.test a.on_true a.on_false)
    (first_not _ c.if-are_complete.false c.are_complete.ensures)

pub is_complete_stmt-returns-in-While : goal.is_complete_stmt-returns-in-While
is_complete_stmt-returns-in-While g t c =
    let a = c.in-While in
    rw (ap stmt_view a.is ∙ view-While a.line a.test a.body) c.are_complete-in-While.ensures

pub is_complete_stmt-returns-then-not-is_empty : goal.is_complete_stmt-returns-then-not-is_empty
is_complete_stmt-returns-then-not-is_empty g t c =
    let a = c.in-Hold in
    rw (ap stmt_view a.is ∙ view-Hold a.line a.demands a.body)
    (some_inside _ _ _ _ c.is_empty.ensures c.if-not-is_empty.true
    (length-map a.demands.items demand_view ∙ sym a.demands.ok.0) c.are_complete-then-not-is_empty.ensures)

pub is_complete_stmt-returns-else-not-is_empty : goal.is_complete_stmt-returns-else-not-is_empty
is_complete_stmt-returns-else-not-is_empty g t c =
    let a = c.in-Hold in
    rw (ap stmt_view a.is ∙ view-Hold a.line a.demands a.body)
    (none_inside _ _ _ c.is_empty.ensures c.if-not-is_empty.false (length-map a.demands.items demand_view ∙ sym a.demands.ok.0))
