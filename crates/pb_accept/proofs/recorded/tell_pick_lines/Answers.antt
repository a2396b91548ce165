use Rattle.pb_command_io.proofs.PageLemmas.{OnErr-of}
use Rattle.pb_base.specs.Lines.{line, names_view}
use Rattle.pb_picks.specs.PickLines.{pick_line}
use Rattle.pb_voice.specs.Held.{at}
use Rattle.pb_voice.proofs.VoiceLemmas.{adds_nothing, element_added, element_broken, elements_added}
use Rattle.pb_accept.proofs.recorded.tell_pick_lines.Goals as goal

pub loop-i-init : goal.loop-i-init
loop-i-init g c = adds_nothing (at g.O.Output.written g.O.Output.failures c.args.voice.now c.args.output.now)

pub loop-i-preserved : goal.loop-i-preserved
loop-i-preserved g c =
    element_added (λ pick. line (pick_line (names_view c.args.names.now).processes pick)) c.args.picks.now c.loop-i.i _ c.loop-i-test.true
    (at g.O.Output.written g.O.Output.failures c.args.voice.now c.args.output.now)
    (at g.O.Output.written g.O.Output.failures c.loop-i.voice c.loop-i.output)
    (at g.O.Output.written g.O.Output.failures c.tell_pick_line.new.voice c.tell_pick_line.new.output) c.loop-i.invariant c.in_ok-tell_pick_line.ensures.ok

pub returns-in_err-tell_pick_line-clause-err : goal.returns-in_err-tell_pick_line-clause-err
returns-in_err-tell_pick_line-clause-err g c =
    OnErr-of c.from_residual.result
    (element_broken (λ pick. line (pick_line (names_view c.args.names.now).processes pick)) c.args.picks.now c.loop-i.i _ c.loop-i-test.true
    (at g.O.Output.written g.O.Output.failures c.args.voice.now c.args.output.now)
    (at g.O.Output.written g.O.Output.failures c.loop-i.voice c.loop-i.output)
    (at g.O.Output.written g.O.Output.failures c.tell_pick_line.new.voice c.tell_pick_line.new.output) c.loop-i.invariant c.in_err-tell_pick_line.ensures.err)

pub returns-clause-ok : goal.returns-clause-ok
returns-clause-ok g c =
    elements_added (λ pick. line (pick_line (names_view c.args.names.now).processes pick)) c.args.picks.now c.loop-i.i
    (at g.O.Output.written g.O.Output.failures c.args.voice.now c.args.output.now)
    (at g.O.Output.written g.O.Output.failures c.loop-i.voice c.loop-i.output) c.loop-i-test.false c.loop-i.invariant
