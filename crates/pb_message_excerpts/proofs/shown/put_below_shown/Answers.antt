use Rattle.pb_message_excerpts.proofs.Characters.{below_step}
use Rattle.pb_message_excerpts.proofs.shown.put_below_shown.Goals as goal

pub loop-at-preserved : goal.loop-at-preserved
loop-at-preserved c =
    rw (c.in_ok-put_below_next.ensures, c.later_next-later.ensures)
    (below_step c.loop-at.out.items c.args.bytes.now c.loop-at.at c.loop-at.later _ c.loop-at-test.true c.loop-at.invariant)
