use Rattle.std.proofs.Common.{◌+◌, ◌≤◌, ap, cond, Bool, ◌∙◌, arith}
use Rattle.pb_draw.proofs.OpenHolds.{holds_next}
use Rattle.pb_draw.proofs.AccessSteps.{at_most_one}
use Rattle.pb_draw.proofs.bars.open_holds.Goals as goal

pub loop-bar-preserved : goal.loop-bar-preserved
loop-bar-preserved c =
    let few = c.loop-bar.invariant.few in
    let more = c.one_more-holds.ensures in
    let one : cond c.is_open.result 1 0 ≤ 1 = at_most_one c.is_open.result in
    record {
      few = omega (arith, few, more, one);
      same = holds_next c.args.pick c.args.at c.args.bars.now c.loop-bar.bar-index c.bar-item.result c.loop-bar.holds c.one_more-holds.result
          (omega arith) c.bar-item.is c.loop-bar.invariant.same (more ∙ ap (λ (b : Bool). c.loop-bar.holds + cond b 1 0) c.is_open.ensures);
    }
