use Rattle.std.proofs.Common.{◌+◌, ◌*◌, take}
use Rattle.pb_tree.specs.Measure.{stmt_nodes, stmts_nodes, arms_nodes}
use Rattle.pb_tree.specs.View.{stmt_view, stmts_view, arms_view}
use Rattle.pb_names.specs.Causes.{InStmts, InArms}
use Rattle.pb_names.specs.Search.{IsFirst, names_in}
use Rattle.pb_names.proofs.causes.+causes.Given as goal

abbrev pub decreases-first_in_stmt : goal.decreases-first_in_stmt
decreases-first_in_stmt g l = 3 * stmt_nodes (stmt_view l.stmt.now)

abbrev pub decreases-first_in_list : goal.decreases-first_in_list
decreases-first_in_list g l = 3 * stmts_nodes (stmts_view l.stmts.now.items) + 1

abbrev pub decreases-first_in_arms : goal.decreases-first_in_arms
decreases-first_in_arms g l = 3 * arms_nodes (arms_view l.arms.now.items) + 2

abbrev pub invariant-first_in_list-loop-stmt : goal.invariant-first_in_list-loop-stmt
invariant-first_in_list-loop-stmt g l =
    IsFirst (InStmts (names_in l.integers) (names_in l.resources)
    (stmts_view (take l.stmt-index l.stmt-items))) l.first

abbrev pub invariant-first_in_arms-loop-arm : goal.invariant-first_in_arms-loop-arm
invariant-first_in_arms-loop-arm g l =
    IsFirst (InArms (names_in l.integers) (names_in l.resources)
    (arms_view (take l.arm-index l.arm-items))) l.first
