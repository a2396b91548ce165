use Rattle.std.proofs.Common.{arith, rules}
use Rattle.pb_record.proofs.LongRecords.{counts_too_many}
use Rattle.pb_record.proofs.SpanLemmas.{counted_all, counted_one, next_fits, some_picks}
use Rattle.pb_record.proofs.picks.count_picks.Goals as goal

pub count_pick-requires-clause-some : goal.count_pick-requires-clause-some
count_pick-requires-clause-some c = some_picks c.args.trace.now.entries c.loop-i.i c.span-span.result c.span-span.ensures

pub count_pick-requires-clause-fits : goal.count_pick-requires-clause-fits
count_pick-requires-clause-fits c =
    next_fits c.loop-i.picks.items c.args.trace.now.entries c.loop-i.i c.span-span.result c.loop-i.invariant.0 c.span-span.ensures c.requires

pub loop-i-preserved : goal.loop-i-preserved
loop-i-preserved c = (
  counted_one c.loop-i.picks.items c.count_pick.new.counted.items c.args.trace.now.entries c.loop-i.i c.span-span.result c.loop-i.invariant.0
      c.span-span.ensures c.in_ok-count_pick.ensures.picks,
  c.in_ok-count_pick.ensures.apart,
)

pub returns-then-len-gt-MAX_LINES : goal.returns-then-len-gt-MAX_LINES
returns-then-len-gt-MAX_LINES c =
    counts_too_many c.args.trace.now.entries c.loop-i.i c.loop-i.picks.items c.loop-i.invariant.0 c.loop-i.invariant.1 (omega arith)

pub returns : goal.returns
returns c =
    let len = c.spans_len-i-end.ensures in
    let test = c.loop-i-test.false in record {
      same = counted_all c.loop-i.picks.items c.args.trace.now.entries c.loop-i.i c.loop-i.invariant.0 (omega (arith, len, test));
      apart = c.loop-i.invariant.1;
    }

pub loop-i-init : goal.loop-i-init
loop-i-init c = search rules fits 100
