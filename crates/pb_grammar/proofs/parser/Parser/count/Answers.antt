use Rattle.std.proofs.Common.{length, arith, ap}
use Rattle.pb_grammar.proofs.Signs.{signed_taken, signed_over}
use Rattle.pb_grammar.proofs.parser.Parser.count.Goals as goal

pub loop-mark-preserved : goal.loop-mark-preserved
loop-mark-preserved g c =
    let taken = c.loop-mark-test.ensures in
    let shorter = ap length taken.1 in
    record {
      room = omega (arith, shorter, c.loop-mark.invariant.room);
      same = λ op part. signed_taken c.args.mark op part taken.0 _ _ c.loop-mark.taken _ taken.1 taken.2 (c.loop-mark.invariant.same op part);
    }

pub returns : goal.returns
returns g c = record {
  signs = λ op part. signed_over c.args.mark op part _ _ c.loop-mark.taken _
      c.loop-mark-test.ensures.0 c.loop-mark-test.ensures.1 (c.loop-mark.invariant.same op part);
}
