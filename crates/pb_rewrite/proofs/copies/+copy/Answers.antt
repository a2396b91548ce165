use borrow.Author.Count.{falls}
use Rattle.std.proofs.Common.{map, rules, ap, ap₂, sym, ◌∙◌}
use Rattle.pb_names.specs.Program as plain
use Rattle.pb_names.specs.View.{expr_view, stmt_view, block_view, arm_view, arms_view, block_of, arms_from}
use Rattle.pb_names.proofs.Views.{numbered-Assign, numbered-Print, numbered-If, numbered-While, numbered-Hold, numbered-Parbegin}
use Rattle.pb_tree.proofs.Copies.{copied_more, copied_all}
use Rattle.pb_names.proofs.Sizes.{stmt_size_within, arm_size_within, arms_size_within}
use Rattle.pb_rewrite.proofs.Sizes.{then_size_within, else_size_within, repeated_size_within, held_size_within}
use Rattle.pb_rewrite.proofs.copies.+copy.Goals as goal

pub copy_list-loop-stmt-preserved : goal.copy_list-loop-stmt-preserved
copy_list-loop-stmt-preserved g t c =
    copied_more stmt_view stmt_view _ _ _ _ _ _ c.loop-stmt.invariant c.loop-stmt-test.true c.stmt-item.is
    c.in_ok-push.ensures.items c.in_ok-copy_stmt.ensures

pub copy_list-loop-stmt-init : goal.copy_list-loop-stmt-init
copy_list-loop-stmt-init g t c = ap (map stmt_view) c.new-copy.ensures.items

pub copy_list-loop-stmt-smaller : goal.copy_list-loop-stmt-smaller
copy_list-loop-stmt-smaller g t c = falls _ _ c.loop-stmt-test.true

pub copy_arms-loop-arm-preserved : goal.copy_arms-loop-arm-preserved
unfolding arm_view
copy_arms-loop-arm-preserved g t c =
    copied_more arm_view arm_view _ _ _ _ _ _ c.loop-arm.invariant c.loop-arm-test.true c.arm-item.is
    c.in_ok-push.ensures.items c.in_ok-copy_list.ensures

pub copy_arms-loop-arm-init : goal.copy_arms-loop-arm-init
copy_arms-loop-arm-init g t c = ap (map arm_view) c.new-copy.ensures.items

pub copy_arms-loop-arm-smaller : goal.copy_arms-loop-arm-smaller
copy_arms-loop-arm-smaller g t c = falls _ _ c.loop-arm-test.true

pub copy_list-returns : goal.copy_list-returns
copy_list-returns g t c =
    ap block_of (copied_all stmt_view stmt_view _ _ _ c.loop-stmt.invariant c.loop-stmt-test.false)
    ∙ ap block_view c.deref-stmt-items.ensures.value

pub copy_arms-returns : goal.copy_arms-returns
copy_arms-returns g t c =
    ap arms_from (copied_all arm_view arm_view _ _ _ c.loop-arm.invariant c.loop-arm-test.false)
    ∙ ap arms_view c.deref-arm-items.ensures.value

pub copy_list-copy_stmt-requires : goal.copy_list-copy_stmt-requires
copy_list-copy_stmt-requires g t c κs within =
    let less = stmt_size_within _ _ _ _ c.deref-stmt-items.ensures.value c.stmt-item.is c.loop-stmt-test.true in
    search rules

pub copy_arms-copy_list-requires : goal.copy_arms-copy_list-requires
copy_arms-copy_list-requires g t c κs within =
    let less = arm_size_within _ _ _ _ c.deref-arm-items.ensures.value c.arm-item.is c.loop-arm-test.true in
    search rules

pub copy_stmt-copy_arms-requires : goal.copy_stmt-copy_arms-requires
copy_stmt-copy_arms-requires g t c κs within =
    let less = arms_size_within c.args.stmt.now _ _ _ c.in-Parbegin.is in
    search rules

pub copy_stmt-returns-in_ok-value-in-Assign : goal.copy_stmt-returns-in_ok-value-in-Assign
copy_stmt-returns-in_ok-value-in-Assign g t c =
    let a = c.in-Assign in
    numbered-Assign a.line a.target c.in_ok-value-in-Assign.value
    ∙ ap (plain.Assign a.line a.target) c.in_ok-value-in-Assign.ensures
    ∙ sym (ap stmt_view a.is ∙ numbered-Assign a.line a.target a.value)

pub copy_stmt-returns-in_ok-value-in-Print : goal.copy_stmt-returns-in_ok-value-in-Print
copy_stmt-returns-in_ok-value-in-Print g t c =
    let a = c.in-Print in
    numbered-Print a.line c.in_ok-value-in-Print.value
    ∙ ap (plain.Print a.line) c.in_ok-value-in-Print.ensures
    ∙ sym (ap stmt_view a.is ∙ numbered-Print a.line a.value)

pub copy_stmt-returns-in_ok-on_false-in-If : goal.copy_stmt-returns-in_ok-on_false-in-If
copy_stmt-returns-in_ok-on_false-in-If g t c =
    let a = c.in-If in
    numbered-If a.line c.in_ok-test-in-If.test c.in_ok-on_true-in-If.on_true c.in_ok-on_false-in-If.on_false
    ∙ ap₂ (λ e b. plain.If a.line e b (block_view c.in_ok-on_false-in-If.on_false.items)) c.in_ok-test-in-If.ensures c.in_ok-on_true-in-If.ensures
    ∙ ap (plain.If a.line (expr_view a.test) (block_view a.on_true.items)) c.in_ok-on_false-in-If.ensures
    ∙ sym (ap stmt_view a.is ∙ numbered-If a.line a.test a.on_true a.on_false)

pub copy_stmt-returns-in_ok-body-in-While : goal.copy_stmt-returns-in_ok-body-in-While
copy_stmt-returns-in_ok-body-in-While g t c =
    let a = c.in-While in
    numbered-While a.line c.in_ok-test-in-While.test c.in_ok-body-in-While.body
    ∙ ap₂ (plain.While a.line) c.in_ok-test-in-While.ensures c.in_ok-body-in-While.ensures
    ∙ sym (ap stmt_view a.is ∙ numbered-While a.line a.test a.body)

pub copy_stmt-returns-in_ok-body-in-Hold : goal.copy_stmt-returns-in_ok-body-in-Hold
copy_stmt-returns-in_ok-body-in-Hold g t c =
    let a = c.in-Hold in
    numbered-Hold a.line a.bundle c.in_ok-body-in-Hold.body
    ∙ ap (plain.Hold a.line a.bundle) c.in_ok-body-in-Hold.ensures
    ∙ sym (ap stmt_view a.is ∙ numbered-Hold a.line a.bundle a.body)

pub copy_stmt-returns-in_ok-arms-in-Parbegin : goal.copy_stmt-returns-in_ok-arms-in-Parbegin
copy_stmt-returns-in_ok-arms-in-Parbegin g t c =
    let a = c.in-Parbegin in
    numbered-Parbegin a.line a.first c.in_ok-arms-in-Parbegin.arms
    ∙ ap (plain.Parbegin a.line a.first) c.in_ok-arms-in-Parbegin.ensures
    ∙ sym (ap stmt_view a.is ∙ numbered-Parbegin a.line a.first a.arms)

pub copy_stmt-copy_list-requires : goal.copy_stmt-copy_list-requires
copy_stmt-copy_list-requires g t c κs within =
    let less = then_size_within c.args.stmt.now _ _ _ _ c.in-If.is in
    search rules

pub copy_stmt-copy_list-requires-in-If : goal.copy_stmt-copy_list-requires-in-If
copy_stmt-copy_list-requires-in-If g t c κs within =
    let less = else_size_within c.args.stmt.now _ _ _ _ c.in-If.is in
    search rules

pub copy_stmt-copy_list-requires-in-While : goal.copy_stmt-copy_list-requires-in-While
copy_stmt-copy_list-requires-in-While g t c κs within =
    let less = repeated_size_within c.args.stmt.now _ _ _ c.in-While.is in
    search rules

pub copy_stmt-copy_list-requires-in-Hold : goal.copy_stmt-copy_list-requires-in-Hold
copy_stmt-copy_list-requires-in-Hold g t c κs within =
    let less = held_size_within c.args.stmt.now _ _ _ c.in-Hold.is in
    search rules
