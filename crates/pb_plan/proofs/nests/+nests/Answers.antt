use Rattle.std.proofs.Common.{◌≡◌, ◌∙◌, Option, arith, rules, ap, sym, subst, take}
use Rattle.pb_names.specs.Program.{Stmt}
use Rattle.pb_names.specs.View.{arms_view, block_view, stmt_view}
use Rattle.pb_names.proofs.Sizes.{stmt_size_within, arm_size_within, arms_size_within}
use Rattle.pb_names.proofs.Views.{numbered-Parbegin}
use Rattle.pb_plan.specs.Nests.{arms_nest, first, nest, stmt_nest}
use Rattle.pb_plan.specs.declared.nest.Nest.{Nest}
use Rattle.pb_plan.proofs.NestWalks.{arms_nest_more, nest_more}
use Rattle.pb_plan.proofs.nests.+nests.Goals as goal

pub nest_of_stmt-returns-in-Parbegin : goal.nest_of_stmt-returns-in-Parbegin
nest_of_stmt-returns-in-Parbegin g t c =
    subst (λ (s : Stmt). c.nest_of_arms.result ≡ stmt_nest c.args.outer c.args.inner c.args.held s)
    (sym (ap stmt_view c.in-Parbegin.is
    ∙ numbered-Parbegin c.in-Parbegin.line c.in-Parbegin.first c.in-Parbegin.arms))
    c.nest_of_arms.ensures

pub nest_of_list-loop-stmt-preserved : goal.nest_of_list-loop-stmt-preserved
nest_of_list-loop-stmt-preserved g t c =
    c.first-found.ensures
    ∙ ap (λ (o : Option Nest). first o c.nest_of_stmt.result) c.loop-stmt.invariant
    ∙ ap (first (nest c.args.outer c.args.inner c.args.held (block_view (take c.loop-stmt.stmt-index c.deref-stmt-items.result.now))))
    c.nest_of_stmt.ensures
    ∙ sym (nest_more c.args.outer c.args.inner c.args.held c.deref-stmt-items.result.now c.loop-stmt.stmt-index
    c.stmt-item.result c.stmt-item.is (omega arith))

pub nest_of_arms-loop-arm-preserved : goal.nest_of_arms-loop-arm-preserved
nest_of_arms-loop-arm-preserved g t c =
    c.first-found.ensures
    ∙ ap (λ (o : Option Nest). first o c.nest_of_list.result) c.loop-arm.invariant
    ∙ ap (first (arms_nest c.args.outer c.args.inner c.args.held (arms_view (take c.loop-arm.arm-index c.deref-arm-items.result.now))))
    c.nest_of_list.ensures
    ∙ sym (arms_nest_more c.args.outer c.args.inner c.args.held c.deref-arm-items.result.now c.loop-arm.arm-index
    c.arm-item.result c.arm-item.is (omega arith))

pub nest_of_list-nest_of_stmt-requires : goal.nest_of_list-nest_of_stmt-requires
nest_of_list-nest_of_stmt-requires g t c κs within =
    let less = stmt_size_within _ _ _ _ c.deref-stmt-items.ensures.value c.stmt-item.is (omega arith) in
    search rules

pub nest_of_arms-nest_of_list-requires : goal.nest_of_arms-nest_of_list-requires
nest_of_arms-nest_of_list-requires g t c κs within =
    let less = arm_size_within _ _ _ _ c.deref-arm-items.ensures.value c.arm-item.is (omega arith) in
    search rules

pub nest_of_stmt-nest_of_arms-requires : goal.nest_of_stmt-nest_of_arms-requires
nest_of_stmt-nest_of_arms-requires g t c κs within =
    let less = arms_size_within c.args.stmt.now _ _ _ c.in-Parbegin.is in
    search rules
