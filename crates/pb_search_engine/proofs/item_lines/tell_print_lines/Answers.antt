use Rattle.pb_command_io.proofs.PageLemmas.{OnErr-of}
use Rattle.pb_base.specs.Lines.{names_view}
use Rattle.pb_search_engine.specs.ItemLines.{printed_line}
use Rattle.pb_voice.specs.Held.{at}
use Rattle.pb_voice.proofs.VoiceLemmas.{adds_nothing, element_added, element_broken, elements_added}
use Rattle.pb_search_engine.proofs.item_lines.tell_print_lines.Goals as goal

pub loop-i-init : goal.loop-i-init
loop-i-init g c = adds_nothing (at g.O.Output.written g.O.Output.failures c.args.voice.now c.args.output.now)

pub loop-i-preserved : goal.loop-i-preserved
loop-i-preserved g c =
    element_added (printed_line (names_view c.args.names.now)) c.args.prints.now c.loop-i.i _ c.loop-i-test.true (at g.O.Output.written g.O.Output.failures c.args.voice.now c.args.output.now) (at g.O.Output.written g.O.Output.failures c.loop-i.voice c.loop-i.output) (at g.O.Output.written g.O.Output.failures c.tell_print.new.voice c.tell_print.new.output) c.loop-i.invariant c.in_ok-tell_print.ensures.ok

pub returns-in_err-tell_print-clause-err : goal.returns-in_err-tell_print-clause-err
returns-in_err-tell_print-clause-err g c =
    OnErr-of c.from_residual.result
    (element_broken (printed_line (names_view c.args.names.now)) c.args.prints.now c.loop-i.i _ c.loop-i-test.true (at g.O.Output.written g.O.Output.failures c.args.voice.now c.args.output.now) (at g.O.Output.written g.O.Output.failures c.loop-i.voice c.loop-i.output) (at g.O.Output.written g.O.Output.failures c.tell_print.new.voice c.tell_print.new.output) c.loop-i.invariant c.in_err-tell_print.ensures.err)

pub returns-clause-ok : goal.returns-clause-ok
returns-clause-ok g c =
    elements_added (printed_line (names_view c.args.names.now)) c.args.prints.now c.loop-i.i (at g.O.Output.written g.O.Output.failures c.args.voice.now c.args.output.now) (at g.O.Output.written g.O.Output.failures c.loop-i.voice c.loop-i.output) c.loop-i-test.false c.loop-i.invariant
