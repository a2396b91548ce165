use Rattle.std.proofs.Common.{arith}
use Rattle.pb_base.proofs.Lists.{take_behind}
use Rattle.pb_json_lines.proofs.AloneLemmas.{ends_none, told_next, told_none}
use Rattle.pb_json_lines.proofs.alone.put_ended.Goals as goal

pub loop-at-init : goal.loop-at-init
loop-at-init c = (omega arith, ends_none, told_none c.args.dialect c.args.text.now c.args.out.now.items)

pub loop-at-preserved : goal.loop-at-preserved
loop-at-preserved c =
    told_next c.args.dialect c.args.text.now c.args.out.now.items c.loop-at.count c.in-Some.at _ c.loop-at.out.items c.put_alone.new.out.items
    (take_behind c.args.text.now c.loop-at.count) c.loop-at.invariant.0 c.loop-at.invariant.1 c.loop-at.invariant.2 c.in-Some.ensures.within
    c.in-Some.ensures.place c.in_ok-put_alone.ensures
