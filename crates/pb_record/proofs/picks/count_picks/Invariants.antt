use Rattle.pb_picks.specs.Counted.{AreApart}
use Rattle.pb_record.proofs.SpanLemmas.{AreCounted}
use Rattle.pb_record.proofs.picks.count_picks.Given as goal

abbrev pub invariant-loop-i : goal.invariant-loop-i
invariant-loop-i l = AreCounted l.picks.items l.trace.entries l.i × AreApart l.picks.items
