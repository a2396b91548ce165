use Rattle.std.proofs.Common.{arith}
use Rattle.std.specs.List.{zip}
use Rattle.std.proofs.lemmas.Slice.Zip.{length-zip}
use Rattle.pb_command_io.proofs.PageLemmas.{OnErr-of}
use Rattle.pb_voice.specs.Held.{at}
use Rattle.pb_voice.specs.Pieces.{piece_text}
use Rattle.pb_voice.proofs.VoiceLemmas.{adds_nothing, elements_added, pair_added, pair_breaks}
use Rattle.pb_voice.proofs.pieces.say_pieces.Goals as goal

pub loop-i-init : goal.loop-i-init
loop-i-init g c = adds_nothing (at g.O.Output.written g.O.Output.failures c.args.voice.now c.args.output.now)

pub loop-i-preserved : goal.loop-i-preserved
loop-i-preserved g c =
    let more = c.loop-i-test.true in
    let same = c.requires in
    pair_added piece_text c.args.quoted.now c.args.pieces.now c.loop-i.i _ _ (omega (arith, more, same)) c.loop-i-test.true
    (at g.O.Output.written g.O.Output.failures c.args.voice.now c.args.output.now)
    (at g.O.Output.written g.O.Output.failures c.loop-i.voice c.loop-i.output)
    (at g.O.Output.written g.O.Output.failures c.say_piece.new.voice c.say_piece.new.output) c.loop-i.invariant c.in_ok-say_piece.ensures.ok

pub returns-in_err-say_piece-clause-err : goal.returns-in_err-say_piece-clause-err
returns-in_err-say_piece-clause-err g c =
    let more = c.loop-i-test.true in
    let same = c.requires in
    OnErr-of c.from_residual.result
    (pair_breaks piece_text c.args.quoted.now c.args.pieces.now c.loop-i.i _ _ (omega (arith, more, same)) c.loop-i-test.true
    (at g.O.Output.written g.O.Output.failures c.args.voice.now c.args.output.now)
    (at g.O.Output.written g.O.Output.failures c.loop-i.voice c.loop-i.output)
    (at g.O.Output.written g.O.Output.failures c.say_piece.new.voice c.say_piece.new.output) c.loop-i.invariant c.in_err-say_piece.ensures.err)

pub returns-clause-ok : goal.returns-clause-ok
returns-clause-ok g c =
    let n = length-zip c.args.quoted.now c.args.pieces.now in
    let past = c.loop-i-test.false in
    elements_added piece_text (zip c.args.quoted.now c.args.pieces.now) c.loop-i.i
    (at g.O.Output.written g.O.Output.failures c.args.voice.now c.args.output.now)
    (at g.O.Output.written g.O.Output.failures c.loop-i.voice c.loop-i.output) (omega (arith, n, past)) c.loop-i.invariant
