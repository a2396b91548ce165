use Rattle.std.proofs.Common.{◌≡◌, ◌+◌, ◌*◌, take}
use Rattle.pb_tree.specs.Measure.{saturated, stmt_nodes, stmts_nodes, arms_nodes}
use Rattle.pb_tree.specs.View.{stmt_view, stmts_view, arms_view}
use Rattle.pb_names.specs.Limits.{widest_in, widest_in_arms, inner_arms, inner_arms_of_arms}
use Rattle.pb_names.proofs.limits.+forks.Given as goal

abbrev pub decreases-forks_of_stmt : goal.decreases-forks_of_stmt
decreases-forks_of_stmt g l = 3 * stmt_nodes (stmt_view l.stmt.now)

abbrev pub decreases-forks_of_list : goal.decreases-forks_of_list
decreases-forks_of_list g l = 3 * stmts_nodes (stmts_view l.stmts.now.items) + 1

abbrev pub decreases-forks_of_arms : goal.decreases-forks_of_arms
decreases-forks_of_arms g l = 3 * arms_nodes (arms_view l.arms.now.items) + 2

abbrev pub invariant-forks_of_list-loop-stmt : goal.invariant-forks_of_list-loop-stmt
invariant-forks_of_list-loop-stmt g l = record {
  widest : l.forks.widest ≡ widest_in (stmts_view (take l.stmt-index l.stmt-items));
  arms : l.forks.arms ≡ saturated (inner_arms (stmts_view (take l.stmt-index l.stmt-items)));
}

abbrev pub invariant-forks_of_arms-loop-arm : goal.invariant-forks_of_arms-loop-arm
invariant-forks_of_arms-loop-arm g l = record {
  widest : l.forks.widest ≡ widest_in_arms (arms_view (take l.arm-index l.arm-items));
  arms : l.forks.arms ≡ saturated (inner_arms_of_arms (arms_view (take l.arm-index l.arm-items)));
}
