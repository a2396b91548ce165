use Rattle.std.proofs.Common.{arith}
use Rattle.pb_shared.proofs.TakenMarks.{wiped_more}
use Rattle.pb_shared.proofs.marks.clear.Goals as goal

pub loop-place-preserved : goal.loop-place-preserved
loop-place-preserved c =
    let more = c.loop-place-test.true in
    let count = c.len-place-end.ensures in
    let ok = c.args.marks.now.ok.0 in
    wiped_more c.args.marks.now.items c.loop-place.marks.items c.loop-place.place (omega (arith, more, count, ok)) c.loop-place.invariant
