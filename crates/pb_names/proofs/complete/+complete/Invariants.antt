use Rattle.std.proofs.Common.{◌+◌, ◌*◌, take}
use Rattle.pb_tree.specs.Measure.{stmt_nodes, stmts_nodes, arms_nodes}
use Rattle.pb_tree.specs.View.{stmt_view, stmts_view, arms_view}
use Rattle.pb_names.specs.Ready.{AreComplete, AreCompleteArms}
use Rattle.pb_names.proofs.complete.+complete.Given as goal

abbrev pub decreases-is_complete_stmt : goal.decreases-is_complete_stmt
decreases-is_complete_stmt g l = 3 * stmt_nodes (stmt_view l.stmt.now)

abbrev pub decreases-are_complete : goal.decreases-are_complete
decreases-are_complete g l = 3 * stmts_nodes (stmts_view l.stmts.now.items) + 1

abbrev pub decreases-are_complete_arms : goal.decreases-are_complete_arms
decreases-are_complete_arms g l = 3 * arms_nodes (arms_view l.arms.now.items) + 2

abbrev pub invariant-are_complete-loop-stmt : goal.invariant-are_complete-loop-stmt
invariant-are_complete-loop-stmt g l = AreComplete (stmts_view (take l.stmt-index l.stmt-items))

abbrev pub invariant-are_complete_arms-loop-arm : goal.invariant-are_complete_arms-loop-arm
invariant-are_complete_arms-loop-arm g l = AreCompleteArms (arms_view (take l.arm-index l.arm-items))
