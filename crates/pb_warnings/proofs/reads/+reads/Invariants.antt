use Rattle.std.proofs.Common.{◌≡◌, ◌+◌, ◌*◌, take}
use Rattle.pb_tree.specs.Measure.{stmt_nodes, stmts_nodes, arms_nodes}
use Rattle.pb_tree.specs.View.{stmt_view, stmts_view, arms_view}
use Rattle.pb_warnings.specs.Warnings.{arms_read, stmts_read}
use Rattle.pb_warnings.proofs.reads.+reads.Given as goal

abbrev pub decreases-stmt_reads : goal.decreases-stmt_reads
decreases-stmt_reads g l = 3 * stmt_nodes (stmt_view l.stmt.now)

abbrev pub decreases-list_reads : goal.decreases-list_reads
decreases-list_reads g l = 3 * stmts_nodes (stmts_view l.stmts.now.items) + 1

abbrev pub decreases-arms_read : goal.decreases-arms_read
decreases-arms_read g l = 3 * arms_nodes (arms_view l.arms.now.items) + 2

abbrev pub invariant-list_reads-loop-stmt : goal.invariant-list_reads-loop-stmt
invariant-list_reads-loop-stmt g l = l.reads ≡ stmts_read l.name (stmts_view (take l.stmt-index l.stmt-items))

abbrev pub invariant-arms_read-loop-arm : goal.invariant-arms_read-loop-arm
invariant-arms_read-loop-arm g l = l.read ≡ arms_read l.name (arms_view (take l.arm-index l.arm-items))
