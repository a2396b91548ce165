use Rattle.std.proofs.Common.{◌≡◌, ◌+◌, ◌*◌, ◌++◌, map, take}
use Rattle.pb_names.proofs.Sizes.{stmt_size, block_size, arms_size}
use Rattle.pb_names.specs.Program.{arms_in, arms_in_arms}
use Rattle.pb_names.specs.View.{arms_view, block_view, stmt_view}
use Rattle.pb_generator.proofs.arms.+arms.Given as goal

abbrev pub decreases-add_arms_in_stmt : goal.decreases-add_arms_in_stmt
decreases-add_arms_in_stmt g l = 3 * stmt_size (stmt_view l.stmt.now)

abbrev pub decreases-add_arms_in : goal.decreases-add_arms_in
decreases-add_arms_in g l = 3 * block_size (block_view l.stmts.now.items) + 1

abbrev pub decreases-add_arms_in_each : goal.decreases-add_arms_in_each
decreases-add_arms_in_each g l = 3 * arms_size (arms_view l.own.now.items) + 2

abbrev pub invariant-add_arms_in-loop-stmt : goal.invariant-add_arms_in-loop-stmt
invariant-add_arms_in-loop-stmt g l =
    map (λ arm. block_view arm.now.items) l.arms.items
    ≡ map (λ arm. block_view arm.now.items) l.initial.arms.items ++ arms_in (block_view (take l.stmt-index l.stmt-items))

abbrev pub invariant-add_arms_in_each-loop-arm : goal.invariant-add_arms_in_each-loop-arm
invariant-add_arms_in_each-loop-arm g l =
    map (λ arm. block_view arm.now.items) l.arms.items
    ≡ map (λ arm. block_view arm.now.items) l.initial.arms.items ++ arms_in_arms (arms_view (take l.arm-index l.arm-items))
