use Rattle.std.proofs.Common.{◌≡◌, ◌+◌, ◌*◌, take}
use Rattle.pb_names.specs.View.{arms_view, block_view, stmt_view}
use Rattle.pb_names.proofs.Sizes.{stmt_size, block_size, arms_size}
use Rattle.pb_plan.specs.Parts.{arms_parts, parts}
use Rattle.pb_plan.proofs.parts.+parts.Given as goal

abbrev pub decreases-parts_of_stmt : goal.decreases-parts_of_stmt
decreases-parts_of_stmt g l = 3 * stmt_size (stmt_view l.stmt.now)

abbrev pub decreases-parts_of_list : goal.decreases-parts_of_list
decreases-parts_of_list g l = 3 * block_size (block_view l.stmts.now.items) + 1

abbrev pub decreases-parts_of_arms : goal.decreases-parts_of_arms
decreases-parts_of_arms g l = 3 * arms_size (arms_view l.arms.now.items) + 2

abbrev pub invariant-parts_of_list-loop-stmt : goal.invariant-parts_of_list-loop-stmt
invariant-parts_of_list-loop-stmt g l =
    l.greatest.items ≡ parts l.resource (block_view (take l.stmt-index l.stmt-items))

abbrev pub invariant-parts_of_arms-loop-arm : goal.invariant-parts_of_arms-loop-arm
invariant-parts_of_arms-loop-arm g l =
    l.all.items ≡ arms_parts l.resource (arms_view (take l.arm-index l.arm-items))
