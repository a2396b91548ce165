use Rattle.std.proofs.Common.{◌≡◌, ◌+◌, ◌*◌, ◌++◌, map, take}
use Rattle.pb_tree.specs.Measure.{stmt_nodes, stmts_nodes, arms_nodes}
use Rattle.pb_tree.specs.View.{stmt_view, stmts_view, arms_view}
use Rattle.pb_warnings.specs.Warnings.{lone_in, lone_in_arms, warning}
use Rattle.pb_warnings.proofs.arms.+walk.Given as goal

abbrev pub decreases-add_stmt : goal.decreases-add_stmt
decreases-add_stmt g l = 3 * stmt_nodes (stmt_view l.stmt.now)

abbrev pub decreases-add_list : goal.decreases-add_list
decreases-add_list g l = 3 * stmts_nodes (stmts_view l.stmts.now.items) + 1

abbrev pub decreases-add_arms : goal.decreases-add_arms
decreases-add_arms g l = 3 * arms_nodes (arms_view l.arms.now.items) + 2

abbrev pub invariant-add_list-loop-stmt : goal.invariant-add_list-loop-stmt
invariant-add_list-loop-stmt g l =
    map warning l.out.items ≡ map warning l.initial.out.items ++ lone_in (stmts_view (take l.stmt-index l.stmt-items))

abbrev pub invariant-add_arms-loop-arm : goal.invariant-add_arms-loop-arm
invariant-add_arms-loop-arm g l =
    map warning l.out.items ≡ map warning l.initial.out.items ++ lone_in_arms (arms_view (take l.arm-index l.arm-items))
