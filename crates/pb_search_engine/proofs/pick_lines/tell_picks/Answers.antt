use Rattle.pb_command_io.proofs.PageLemmas.{OnErr-of}
use Rattle.pb_base.specs.Lines.{names_view}
use Rattle.pb_search_engine.specs.ItemLines.{counted_line}
use Rattle.pb_voice.specs.Held.{at}
use Rattle.pb_voice.proofs.VoiceLemmas.{adds_nothing, element_added, element_broken, elements_added}
use Rattle.pb_search_engine.proofs.pick_lines.tell_picks.Goals as goal

pub loop-i-init : goal.loop-i-init
loop-i-init g c = adds_nothing (at g.O.Output.written g.O.Output.failures c.args.voice.now c.args.output.now)

pub loop-i-preserved : goal.loop-i-preserved
loop-i-preserved g c =
    element_added (counted_line (names_view c.args.names.now)) c.args.picks.now c.loop-i.i _ c.loop-i-test.true (at g.O.Output.written g.O.Output.failures c.args.voice.now c.args.output.now) (at g.O.Output.written g.O.Output.failures c.loop-i.voice c.loop-i.output) (at g.O.Output.written g.O.Output.failures c.tell_pick.new.voice c.tell_pick.new.output) c.loop-i.invariant c.in_ok-tell_pick.ensures.ok

pub returns-in_err-tell_pick-clause-err : goal.returns-in_err-tell_pick-clause-err
returns-in_err-tell_pick-clause-err g c =
    OnErr-of c.from_residual.result
    (element_broken (counted_line (names_view c.args.names.now)) c.args.picks.now c.loop-i.i _ c.loop-i-test.true (at g.O.Output.written g.O.Output.failures c.args.voice.now c.args.output.now) (at g.O.Output.written g.O.Output.failures c.loop-i.voice c.loop-i.output) (at g.O.Output.written g.O.Output.failures c.tell_pick.new.voice c.tell_pick.new.output) c.loop-i.invariant c.in_err-tell_pick.ensures.err)

pub returns-clause-ok : goal.returns-clause-ok
returns-clause-ok g c =
    elements_added (counted_line (names_view c.args.names.now)) c.args.picks.now c.loop-i.i (at g.O.Output.written g.O.Output.failures c.args.voice.now c.args.output.now) (at g.O.Output.written g.O.Output.failures c.loop-i.voice c.loop-i.output) c.loop-i-test.false c.loop-i.invariant
