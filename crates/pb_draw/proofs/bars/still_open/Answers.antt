use Rattle.std.proofs.Common.{arith}
use Rattle.std.proofs.lemmas.Grind.{common_steps}
use Rattle.pb_draw.proofs.OpenHolds.{still_next}
use Rattle.pb_draw.proofs.bars.still_open.Goals as goal

pub loop-bar-preserved : goal.loop-bar-preserved
loop-bar-preserved c = record {
  few = grind (arith, common_steps);
  same = λ arm t le.
      still_next arm c.args.at t c.args.held.now c.loop-bar.bar-index c.bar-item.result c.loop-bar.still.items c.add_if.new.bars.items
      c.is_before.result (omega arith) c.bar-item.is (c.loop-bar.invariant.same arm t le) le c.is_before.ensures c.in_ok-add_if.ensures;
}
