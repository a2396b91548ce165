use Rattle.std.proofs.Common.{arith, rules, ap, ◌∙◌, ◌||◌}
use Rattle.pb_tree.proofs.Smaller.{stmt_nodes_within, arm_nodes_within, arms_nodes_within}
use Rattle.pb_tree.proofs.Views.{view-Parbegin}
use Rattle.pb_tree.specs.View.{stmt_view}
use Rattle.pb_warnings.proofs.Walks.{arms_read_more, read_more}
use Rattle.pb_warnings.proofs.reads.+reads.Goals as goal

pub list_reads-stmt_reads-reads-requires : goal.list_reads-stmt_reads-reads-requires
list_reads-stmt_reads-reads-requires g t c κs within =
    let less = stmt_nodes_within _ _ _ _ c.deref-stmt-items.ensures.value c.stmt-item.is (omega arith) in
    search rules

pub arms_read-list_reads-read-requires : goal.arms_read-list_reads-read-requires
arms_read-list_reads-read-requires g t c κs within =
    let less = arm_nodes_within _ _ _ _ c.deref-arm-items.ensures.value c.arm-item.is (omega arith) in
    search rules

pub stmt_reads-arms_read-requires : goal.stmt_reads-arms_read-requires
stmt_reads-arms_read-requires g t c κs within =
    let less = arms_nodes_within c.args.stmt.now _ _ c.in-Parbegin.is in
    search rules

pub list_reads-loop-stmt-preserved : goal.list_reads-loop-stmt-preserved
list_reads-loop-stmt-preserved g t c =
    ap (λ b. c.loop-stmt.reads || b) c.stmt_reads-reads.ensures
    ∙ read_more c.args.name.now c.loop-stmt.reads c.deref-stmt-items.result.now c.loop-stmt.stmt-index c.stmt-item.result
    c.stmt-item.is (omega arith) c.loop-stmt.invariant

pub arms_read-loop-arm-preserved : goal.arms_read-loop-arm-preserved
arms_read-loop-arm-preserved g t c =
    ap (λ b. c.loop-arm.read || b) c.list_reads-read.ensures
    ∙ arms_read_more c.args.name.now c.loop-arm.read c.deref-arm-items.result.now c.loop-arm.arm-index c.arm-item.result
    c.arm-item.is (omega arith) c.loop-arm.invariant

pub stmt_reads-returns-in-Parbegin : goal.stmt_reads-returns-in-Parbegin
stmt_reads-returns-in-Parbegin g t c =
    rw (ap stmt_view c.in-Parbegin.is ∙ view-Parbegin c.in-Parbegin.line c.in-Parbegin.arms) c.arms_read.ensures
