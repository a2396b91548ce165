use Rattle.std.proofs.Common.{◌≡◌, ◌∙◌, ◌++◌, IfOk, List, arith, rules, ap, sym, subst, take}
use Rattle.pb_names.specs.Program.{Stmt}
use Rattle.pb_names.specs.View.{arms_view, block_view, stmt_view}
use Rattle.pb_names.proofs.Sizes.{stmt_size_within, arm_size_within, arms_size_within}
use Rattle.pb_names.proofs.Views.{numbered-Parbegin}
use Rattle.pb_plan.specs.Parts.{arms_parts, heavier, parts, stmt_parts}
use Rattle.pb_plan.specs.declared.part.Part.{Part}
use Rattle.pb_plan.proofs.Walks.{arms_parts_more, parts_more}
use Rattle.pb_plan.proofs.parts.+parts.Goals as goal

pub parts_of_stmt-returns-in-Parbegin : goal.parts_of_stmt-returns-in-Parbegin
parts_of_stmt-returns-in-Parbegin g t c =
    subst (λ (s : Stmt). IfOk c.parts_of_arms.result (λ found. found.items ≡ stmt_parts c.args.resource s))
    (sym (ap stmt_view c.in-Parbegin.is
    ∙ numbered-Parbegin c.in-Parbegin.line c.in-Parbegin.first c.in-Parbegin.arms))
    c.parts_of_arms.ensures

pub parts_of_list-loop-stmt-preserved : goal.parts_of_list-loop-stmt-preserved
parts_of_list-loop-stmt-preserved g t c =
    c.heavier-greatest.ensures
    ∙ ap (λ (l : List Part). heavier l c.in_ok-next.next.items) c.loop-stmt.invariant
    ∙ ap (heavier (parts c.args.resource (block_view (take c.loop-stmt.stmt-index c.deref-stmt-items.result.now))))
    c.in_ok-next.ensures
    ∙ sym (parts_more c.args.resource c.deref-stmt-items.result.now c.loop-stmt.stmt-index c.stmt-item.result
    c.stmt-item.is (omega arith))

pub parts_of_arms-loop-arm-preserved : goal.parts_of_arms-loop-arm-preserved
parts_of_arms-loop-arm-preserved g t c =
    c.in_ok-extend_from_slice.ensures.items
    ∙ ap (λ (l : List Part). c.loop-arm.all.items ++ l) c.deref.ensures.value
    ∙ ap (λ (l : List Part). l ++ c.in_ok-next.next.items) c.loop-arm.invariant
    ∙ ap (λ (l : List Part). arms_parts c.args.resource (arms_view (take c.loop-arm.arm-index c.deref-arm-items.result.now)) ++ l)
    c.in_ok-next.ensures
    ∙ sym (arms_parts_more c.args.resource c.deref-arm-items.result.now c.loop-arm.arm-index c.arm-item.result
    c.arm-item.is (omega arith))

pub parts_of_list-parts_of_stmt-requires : goal.parts_of_list-parts_of_stmt-requires
parts_of_list-parts_of_stmt-requires g t c κs within =
    let less = stmt_size_within _ _ _ _ c.deref-stmt-items.ensures.value c.stmt-item.is (omega arith) in
    search rules

pub parts_of_arms-parts_of_list-requires : goal.parts_of_arms-parts_of_list-requires
parts_of_arms-parts_of_list-requires g t c κs within =
    let less = arm_size_within _ _ _ _ c.deref-arm-items.ensures.value c.arm-item.is (omega arith) in
    search rules

pub parts_of_stmt-parts_of_arms-requires : goal.parts_of_stmt-parts_of_arms-requires
parts_of_stmt-parts_of_arms-requires g t c κs within =
    let less = arms_size_within c.args.stmt.now _ _ _ c.in-Parbegin.is in
    search rules
