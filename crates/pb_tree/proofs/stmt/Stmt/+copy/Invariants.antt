use Rattle.std.proofs.Common.{◌≡◌, ◌+◌, ◌*◌, map, take}
use Rattle.pb_tree.specs.Measure.{stmt_nodes, stmts_nodes, arms_nodes}
use Rattle.pb_tree.specs.View.{stmt_view, stmts_view, arm_view, arms_view}
use Rattle.pb_tree.proofs.stmt.Stmt.+copy.Given as goal

abbrev pub decreases-copy_into : goal.decreases-copy_into
decreases-copy_into g l = 3 * stmt_nodes (stmt_view l.self.now)

abbrev pub decreases-copy_list : goal.decreases-copy_list
decreases-copy_list g l = 3 * stmts_nodes (stmts_view l.stmts.now.items) + 1

abbrev pub decreases-copy_arms : goal.decreases-copy_arms
decreases-copy_arms g l = 3 * arms_nodes (arms_view l.arms.now.items) + 2

abbrev pub invariant-copy_list-loop-stmt : goal.invariant-copy_list-loop-stmt
invariant-copy_list-loop-stmt g l =
    map stmt_view l.copy.items ≡ map stmt_view (take l.stmt-index l.stmt-items)

abbrev pub invariant-copy_arms-loop-arm : goal.invariant-copy_arms-loop-arm
invariant-copy_arms-loop-arm g l = map arm_view l.copy.items ≡ map arm_view (take l.arm-index l.arm-items)
