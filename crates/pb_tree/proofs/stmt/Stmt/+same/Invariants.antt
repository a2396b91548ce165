use Rattle.std.proofs.Common.{◌≡◌, ◌+◌, ◌*◌, map, take}
use Rattle.pb_tree.specs.Measure.{stmt_nodes, stmts_nodes, arms_nodes}
use Rattle.pb_tree.specs.View.{stmt_view, stmts_view, arm_view, arms_view}
use Rattle.pb_tree.proofs.stmt.Stmt.+same.Given as goal

abbrev pub decreases-same : goal.decreases-same
decreases-same g l = 3 * stmt_nodes (stmt_view l.self.now)

abbrev pub decreases-same_list : goal.decreases-same_list
decreases-same_list g l = 3 * stmts_nodes (stmts_view l.stmts.now.items) + 1

abbrev pub decreases-same_arms : goal.decreases-same_arms
decreases-same_arms g l = 3 * arms_nodes (arms_view l.arms.now.items) + 2

abbrev pub invariant-same_list-loop-i : goal.invariant-same_list-loop-i
invariant-same_list-loop-i g l =
    map stmt_view (take l.i l.stmts.items) ≡ map stmt_view (take l.i l.others.items)

abbrev pub invariant-same_arms-loop-i : goal.invariant-same_arms-loop-i
invariant-same_arms-loop-i g l =
    map arm_view (take l.i l.arms.items) ≡ map arm_view (take l.i l.others.items)
