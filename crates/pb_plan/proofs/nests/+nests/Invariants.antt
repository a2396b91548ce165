use Rattle.std.proofs.Common.{◌≡◌, ◌+◌, ◌*◌, take}
use Rattle.pb_names.specs.View.{arms_view, block_view, stmt_view}
use Rattle.pb_names.proofs.Sizes.{stmt_size, block_size, arms_size}
use Rattle.pb_plan.specs.Nests.{arms_nest, nest}
use Rattle.pb_plan.proofs.nests.+nests.Given as goal

abbrev pub decreases-nest_of_stmt : goal.decreases-nest_of_stmt
decreases-nest_of_stmt g l = 3 * stmt_size (stmt_view l.stmt.now)

abbrev pub decreases-nest_of_list : goal.decreases-nest_of_list
decreases-nest_of_list g l = 3 * block_size (block_view l.stmts.now.items) + 1

abbrev pub decreases-nest_of_arms : goal.decreases-nest_of_arms
decreases-nest_of_arms g l = 3 * arms_size (arms_view l.arms.now.items) + 2

abbrev pub invariant-nest_of_list-loop-stmt : goal.invariant-nest_of_list-loop-stmt
invariant-nest_of_list-loop-stmt g l =
    l.found ≡ nest l.outer l.inner l.held (block_view (take l.stmt-index l.stmt-items))

abbrev pub invariant-nest_of_arms-loop-arm : goal.invariant-nest_of_arms-loop-arm
invariant-nest_of_arms-loop-arm g l =
    l.found ≡ arms_nest l.outer l.inner l.held (arms_view (take l.arm-index l.arm-items))
