use Rattle.std.proofs.Common.{◌≡◌, ◌+◌, ◌*◌, take}
use Rattle.pb_tree.specs.Measure.{saturated, stmt_nodes, stmts_nodes, arms_nodes}
use Rattle.pb_tree.specs.View.{stmt_view, stmts_view, arms_view}
use Rattle.pb_tree.proofs.stmt.Stmt.+nodes.Given as goal

abbrev pub decreases-nodes : goal.decreases-nodes
decreases-nodes g l = 3 * stmt_nodes (stmt_view l.self.now)

abbrev pub decreases-list_nodes : goal.decreases-list_nodes
decreases-list_nodes g l = 3 * stmts_nodes (stmts_view l.stmts.now.items) + 1

abbrev pub decreases-arms_nodes : goal.decreases-arms_nodes
decreases-arms_nodes g l = 3 * arms_nodes (arms_view l.arms.now.items) + 2

abbrev pub invariant-list_nodes-loop-stmt : goal.invariant-list_nodes-loop-stmt
invariant-list_nodes-loop-stmt g l =
    l.total ≡ saturated (stmts_nodes (stmts_view (take l.stmt-index l.stmt-items)))

abbrev pub invariant-arms_nodes-loop-arm : goal.invariant-arms_nodes-loop-arm
invariant-arms_nodes-loop-arm g l =
    l.total ≡ saturated (arms_nodes (arms_view (take l.arm-index l.arm-items)))
