use Rattle.std.proofs.Common.{◌≡◌, length, take}
use Rattle.pb_history.specs.Replays.{spread}
use Rattle.pb_debug_positions.proofs.checkpoints.count_all.Given as goal

abbrev pub invariant-loop-i : goal.invariant-loop-i
invariant-loop-i l = record { count : l.count ≡ length (spread (take l.i l.picks)) }
