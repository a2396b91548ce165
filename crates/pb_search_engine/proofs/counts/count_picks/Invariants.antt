use Rattle.std.proofs.Common.{◌≡◌, take}
use Rattle.pb_history.specs.Replays.{spread}
use Rattle.pb_picks.specs.Counted.{AreApart}
use Rattle.pb_search_engine.proofs.counts.count_picks.Given as goal

abbrev pub invariant-loop-i : goal.invariant-loop-i
invariant-loop-i l = (spread l.counted.items ≡ take l.i l.picks) × AreApart l.counted.items
