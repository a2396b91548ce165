use Rattle.std.proofs.Common.{rules, refl, sym, append-nil, ap, map, ◌++◌, ◌∙◌}
use Rattle.std.proofs.lemmas.List.{take_all}
use Rattle.pb_names.proofs.Sizes.{arm_size_within, arms_size_within, stmt_size_within}
use Rattle.pb_names.specs.Program.{arms_in_stmt, arms_in, arms_in_arms}
use Rattle.pb_names.specs.View.{stmt_view, block_view, arms_view}
use Rattle.pb_names.proofs.Views.{numbered-If, numbered-While, numbered-Hold, numbered-Parbegin}
use Rattle.pb_generator.proofs.Lists.{arms_in-more, arms_in_arms-more, collected}
use Rattle.pb_generator.proofs.arms.+arms.Goals as goal

pub add_arms_in-add_arms_in_stmt-requires : goal.add_arms_in-add_arms_in_stmt-requires
add_arms_in-add_arms_in_stmt-requires g t c κs within =
    let less = stmt_size_within _ _ _ _ c.deref-stmt-items.ensures.value c.stmt-item.is c.loop-stmt-test.true in
    search rules

pub add_arms_in-loop-stmt-preserved : goal.add_arms_in-loop-stmt-preserved
add_arms_in-loop-stmt-preserved g t c =
    collected _ _ _ _ (arms_in_stmt (stmt_view c.stmt-item.result)) _ c.loop-stmt.invariant c.in_ok-add_arms_in_stmt.ensures
    (arms_in-more c.deref-stmt-items.result.now c.loop-stmt.stmt-index c.stmt-item.result c.stmt-item.is c.loop-stmt-test.true)

pub add_arms_in_each-add_arms_in-requires : goal.add_arms_in_each-add_arms_in-requires
add_arms_in_each-add_arms_in-requires g t c κs within =
    let less = arm_size_within _ _ _ _ c.deref-arm-items.ensures.value c.arm-item.is c.loop-arm-test.true in
    search rules

pub add_arms_in_each-loop-arm-preserved : goal.add_arms_in_each-loop-arm-preserved
add_arms_in_each-loop-arm-preserved g t c =
    collected _ _ _ _ _ _ c.loop-arm.invariant c.in_ok-add_arms_in.ensures
    (arms_in_arms-more c.deref-arm-items.result.now c.loop-arm.arm-index c.arm-item.result c.arm-item.is c.loop-arm-test.true)

pub add_arms_in_stmt-add_arms_in_each-requires : goal.add_arms_in_stmt-add_arms_in_each-requires
add_arms_in_stmt-add_arms_in_each-requires g t c κs within =
    let less = arms_size_within c.args.stmt.now _ _ _ c.in-Parbegin.is in
    search rules

pub add_arms_in_stmt-returns-in_ok-add_arms_in-in-If-2 : goal.add_arms_in_stmt-returns-in_ok-add_arms_in-in-If-2
add_arms_in_stmt-returns-in_ok-add_arms_in-in-If-2 g t c =
    rw (c.in-If.is, numbered-If)
    (collected _ _ _ _ _ _ c.in_ok-add_arms_in-in-If.ensures c.in_ok-add_arms_in-in-If-2.ensures refl)

pub add_arms_in_stmt-returns-in_ok-add_arms_in_each-in-Parbegin :
    goal.add_arms_in_stmt-returns-in_ok-add_arms_in_each-in-Parbegin
add_arms_in_stmt-returns-in_ok-add_arms_in_each-in-Parbegin g t c =
    rw (c.in-Parbegin.is, numbered-Parbegin)
    (collected _ _ _ _ _ _ c.in_ok-add_arms-in-Parbegin.ensures c.in_ok-add_arms_in_each-in-Parbegin.ensures refl)

pub add_arms_in-loop-stmt-init : goal.add_arms_in-loop-stmt-init
add_arms_in-loop-stmt-init g t c = sym (append-nil (map (λ arm. block_view arm.now.items) c.args.arms.now.items))

pub add_arms_in-returns : goal.add_arms_in-returns
add_arms_in-returns g t c =
    c.loop-stmt.invariant
    ∙ ap (λ own. map (λ arm. block_view arm.now.items) c.args.arms.now.items ++ arms_in (block_view own))
    (take_all c.loop-stmt.stmt-index c.deref-stmt-items.result.now c.loop-stmt-test.false ∙ c.deref-stmt-items.ensures.value)

pub add_arms_in_each-loop-arm-init : goal.add_arms_in_each-loop-arm-init
add_arms_in_each-loop-arm-init g t c = sym (append-nil (map (λ arm. block_view arm.now.items) c.args.arms.now.items))

pub add_arms_in_each-returns : goal.add_arms_in_each-returns
add_arms_in_each-returns g t c =
    c.loop-arm.invariant
    ∙ ap (λ own. map (λ arm. block_view arm.now.items) c.args.arms.now.items ++ arms_in_arms (arms_view own))
    (take_all c.loop-arm.arm-index c.deref-arm-items.result.now c.loop-arm-test.false ∙ c.deref-arm-items.ensures.value)

pub add_arms_in_stmt-returns-in_ok-add_arms_in-in-While : goal.add_arms_in_stmt-returns-in_ok-add_arms_in-in-While
add_arms_in_stmt-returns-in_ok-add_arms_in-in-While g t c = rw (c.in-While.is, numbered-While) c.in_ok-add_arms_in-in-While.ensures

pub add_arms_in_stmt-returns-in_ok-add_arms_in-in-Hold : goal.add_arms_in_stmt-returns-in_ok-add_arms_in-in-Hold
add_arms_in_stmt-returns-in_ok-add_arms_in-in-Hold g t c = rw (c.in-Hold.is, numbered-Hold) c.in_ok-add_arms_in-in-Hold.ensures
