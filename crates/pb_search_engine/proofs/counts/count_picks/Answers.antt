use Rattle.std.proofs.Common.{arith}
use Rattle.pb_search_engine.proofs.CountLemmas.{counted_few}
use Rattle.pb_search_engine.proofs.counts.count_picks.Goals as goal

pub count_pick-requires-clause-fits : goal.count_pick-requires-clause-fits
count_pick-requires-clause-fits c =
    let within = c.loop-i-test.true in
    let many = counted_few c.args.picks.now c.loop-i.i c.loop-i.counted.items (omega (arith, within)) c.loop-i.invariant.0 in
    let few = c.requires in
    omega (arith, within, many, few)
