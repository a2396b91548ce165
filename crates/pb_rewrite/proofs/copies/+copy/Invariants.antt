use Rattle.std.proofs.Common.{◌≡◌, ◌+◌, ◌*◌, map, take}
use Rattle.pb_names.specs.View.{stmt_view, block_view, arm_view, arms_view}
use Rattle.pb_names.proofs.Sizes.{stmt_size, block_size, arms_size}
use Rattle.pb_rewrite.proofs.copies.+copy.Given as goal

abbrev pub decreases-copy_stmt : goal.decreases-copy_stmt
decreases-copy_stmt g l = 3 * stmt_size (stmt_view l.stmt.now)

abbrev pub decreases-copy_list : goal.decreases-copy_list
decreases-copy_list g l = 3 * block_size (block_view l.stmts.now.items) + 1

abbrev pub decreases-copy_arms : goal.decreases-copy_arms
decreases-copy_arms g l = 3 * arms_size (arms_view l.arms.now.items) + 2

abbrev pub invariant-copy_list-loop-stmt : goal.invariant-copy_list-loop-stmt
invariant-copy_list-loop-stmt g l =
    map stmt_view l.copy.items ≡ map stmt_view (take l.stmt-index l.stmt-items)

abbrev pub invariant-copy_arms-loop-arm : goal.invariant-copy_arms-loop-arm
invariant-copy_arms-loop-arm g l = map arm_view l.copy.items ≡ map arm_view (take l.arm-index l.arm-items)
