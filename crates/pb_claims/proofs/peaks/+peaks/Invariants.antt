use Rattle.std.proofs.Common.{◌≡◌, ◌+◌, ◌*◌, take}
use Rattle.pb_names.specs.Claims.{arms_peak, peak}
use Rattle.pb_names.specs.View.{arms_view, block_view, stmt_view}
use Rattle.pb_tree.specs.Measure.{saturated}
use Rattle.pb_names.proofs.Sizes.{stmt_size, block_size, arms_size}
use Rattle.pb_claims.proofs.peaks.+peaks.Given as goal

abbrev pub decreases-peak_of_stmt : goal.decreases-peak_of_stmt
decreases-peak_of_stmt g l = 3 * stmt_size (stmt_view l.stmt.now)

abbrev pub decreases-peak_of_list : goal.decreases-peak_of_list
decreases-peak_of_list g l = 3 * block_size (block_view l.stmts.now.items) + 1

abbrev pub decreases-peak_of_arms : goal.decreases-peak_of_arms
decreases-peak_of_arms g l = 3 * arms_size (arms_view l.arms.now.items) + 2

abbrev pub invariant-peak_of_list-loop-stmt : goal.invariant-peak_of_list-loop-stmt
invariant-peak_of_list-loop-stmt g l =
    l.greatest ≡ saturated (peak l.resource (block_view (take l.stmt-index l.stmt-items)))

abbrev pub invariant-peak_of_arms-loop-arm : goal.invariant-peak_of_arms-loop-arm
invariant-peak_of_arms-loop-arm g l =
    l.total ≡ saturated (arms_peak l.resource (arms_view (take l.arm-index l.arm-items)))
