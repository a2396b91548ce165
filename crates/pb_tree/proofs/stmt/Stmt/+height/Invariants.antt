use Rattle.std.proofs.Common.{◌≡◌, ◌+◌, ◌*◌, take}
use Rattle.pb_tree.specs.Measure.{saturated, stmt_nodes, stmts_nodes, arms_nodes, stmts_height, arms_height}
use Rattle.pb_tree.specs.View.{stmt_view, stmts_view, arms_view}
use Rattle.pb_tree.proofs.stmt.Stmt.+height.Given as goal

abbrev pub decreases-height : goal.decreases-height
decreases-height g l = 3 * stmt_nodes (stmt_view l.self.now)

abbrev pub decreases-list_height : goal.decreases-list_height
decreases-list_height g l = 3 * stmts_nodes (stmts_view l.stmts.now.items) + 1

abbrev pub decreases-arms_height : goal.decreases-arms_height
decreases-arms_height g l = 3 * arms_nodes (arms_view l.arms.now.items) + 2

abbrev pub invariant-list_height-loop-stmt : goal.invariant-list_height-loop-stmt
invariant-list_height-loop-stmt g l =
    l.highest ≡ saturated (stmts_height (stmts_view (take l.stmt-index l.stmt-items)))

abbrev pub invariant-arms_height-loop-arm : goal.invariant-arms_height-loop-arm
invariant-arms_height-loop-arm g l =
    l.highest ≡ saturated (arms_height (arms_view (take l.arm-index l.arm-items)))
