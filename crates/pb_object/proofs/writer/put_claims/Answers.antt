use Rattle.std.proofs.Common.{◌<◌, [], codes, length, arith, slice_index_or}
use Rattle.std.specs.Fmt.{decimal}
use Rattle.pb_object.proofs.JoinedWords.{more_mapped}
use Rattle.pb_object.proofs.writer.put_claims.Goals as goal

pub loop-r-preserved : goal.loop-r-preserved
loop-r-preserved c =
    let row = slice_index_or c.args.claims.now c.args.p [] in
    let number = c.resources-r-end.ensures.number in
    let width = c.requires.width in
    let lt : c.loop-r.r < length row = omega (arith, number, width) in
    more_mapped decimal c.args.out.now.items c.loop-r.out.items _ (codes "claims") [] row c.loop-r.r 0 lt
    c.loop-r.invariant (rw c.get.ensures at c.in_ok-put_next.ensures)
