use Rattle.std.proofs.Common.{◌≡◌, ◌+◌, length}
use Rattle.pb_history.specs.Replays.{spread}
use Rattle.pb_picks.specs.Counted.{AreApart}
use Rattle.pb_runtime_tests.proofs.picks.counted.Given as goal

abbrev pub invariant-loop-i : goal.invariant-loop-i
invariant-loop-i l = (length (spread l.picks.items) + l.left ≡ 10000000) × AreApart l.picks.items
