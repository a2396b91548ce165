use Rattle.std.proofs.Common.{◌<◌, length, arith}
use Rattle.pb_bank.proofs.QueueTexts.{others_next}
use Rattle.pb_bank.proofs.queue.without.Goals as goal

pub loop-wish-preserved : goal.loop-wish-preserved
loop-wish-preserved c =
    let l : c.loop-wish.wish-index < length c.args.wishes.now = omega arith in
    others_next c.args.wishes.now c.args.job c.loop-wish.wish-index c.wish-item.result c.loop-wish.others.items c.keep_other.new.others.items l
    c.wish-item.is c.loop-wish.invariant c.in_ok-keep_other.ensures
