use Rattle.std.proofs.Common.{arith}
use Rattle.pb_debug_positions.proofs.checkpoints.replay_counted_picks.Goals as goal

pub interval_for-interval-requires : goal.interval_for-interval-requires
interval_for-interval-requires c =
    let same = c.count_all.ensures in
    let few = c.requires in
    omega (arith, same, few)
