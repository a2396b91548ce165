use Rattle.std.proofs.Common.{arith}
use Rattle.std.proofs.lemmas.Option.{get_or_from_slice_get}
use Rattle.pb_object.proofs.JoinedWords.{more_pairs}
use Rattle.pb_object.proofs.instr_writer.put_bundle.Goals as goal

pub loop-i-preserved : goal.loop-i-preserved
loop-i-preserved c =
    let len = c.len-i-end.ensures.len in
    more_pairs c.args.out.now.items c.loop-i.out.items _ c.args.keyword.now c.args.bundle.now c.loop-i.i c.get.result (omega (arith, len))
    (get_or_from_slice_get c.args.bundle.now c.loop-i.i c.get.result c.get.result c.get.ensures) c.loop-i.invariant c.in_ok-put_pair.ensures
