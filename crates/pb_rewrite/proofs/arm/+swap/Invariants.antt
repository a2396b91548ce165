use Rattle.std.proofs.Common.{◌≡◌, ℕ, ◌+◌, ◌*◌, ◌<◌, map, get_or, None}
use Rattle.pb_names.specs.Source.{find, Arm}
use Rattle.pb_rewrite.specs.View.{arm_view, running_view}
use Rattle.pb_rewrite.proofs.SwappedArms.{arm_size, running_size}
use Rattle.pb_rewrite.proofs.arm.+swap.Given as goal

abbrev pub invariant-swap_among-loop-i : goal.invariant-swap_among-loop-i
invariant-swap_among-loop-i g l = record {
  views : map arm_view l.arms.items ≡ map arm_view l.initial.arms.items;
  none : (k : ℕ) (d : Arm) → k < l.i → find l.wanted (l.first + k) (get_or (map arm_view l.initial.arms.items) k d) ≡ None;
  other : arm_view l.other ≡ arm_view l.initial.other;
}

abbrev pub decreases-swap : goal.decreases-swap
decreases-swap g l = 2 * arm_size (arm_view l.arm.now)

abbrev pub decreases-swap_among : goal.decreases-swap_among
decreases-swap_among g l = 2 * running_size (running_view l.arms.now.items) + 1
