use Rattle.std.proofs.Common.{subst}
use Rattle.pb_voice.specs.Voices.{Adds, Breaks}
use Rattle.pb_command_io.proofs.PageLemmas.{OnErr-of}
use Rattle.pb_base.specs.Lines.{names_view}
use Rattle.pb_code.specs.View.{labels_view}
use Rattle.pb_search_engine.specs.ItemLines.{part_line}
use Rattle.pb_search_engine.specs.declared.part.Part.{Part}
use Rattle.pb_voice.specs.Held.{at}
use Rattle.pb_voice.proofs.VoiceLemmas.{adds_nothing, element_added, element_broken, elements_added}
use Rattle.pb_search_engine.proofs.item_lines.tell_parts.Goals as goal

pub loop-i-init : goal.loop-i-init
loop-i-init g c = adds_nothing (at g.O.Output.written g.O.Output.failures c.args.voice.now c.args.output.now)

pub loop-i-preserved : goal.loop-i-preserved
loop-i-preserved g c =
    element_added (part_line (names_view c.args.names.now) (labels_view c.args.labels.now)) c.args.parts.now c.loop-i.i c.index-parts-i.result c.loop-i-test.true (at g.O.Output.written g.O.Output.failures c.args.voice.now c.args.output.now) (at g.O.Output.written g.O.Output.failures c.loop-i.voice c.loop-i.output) (at g.O.Output.written g.O.Output.failures c.tell_part.new.voice c.tell_part.new.output) c.loop-i.invariant (subst (λ (p : Part). Adds (at g.O.Output.written g.O.Output.failures c.loop-i.voice c.loop-i.output) ((part_line (names_view c.args.names.now) (labels_view c.args.labels.now)) p) (at g.O.Output.written g.O.Output.failures c.tell_part.new.voice c.tell_part.new.output)) c.index-parts-i.is c.in_ok-tell_part.ensures.ok)

pub returns-in_err-tell_part-clause-err : goal.returns-in_err-tell_part-clause-err
returns-in_err-tell_part-clause-err g c =
    OnErr-of c.from_residual.result
    (element_broken (part_line (names_view c.args.names.now) (labels_view c.args.labels.now)) c.args.parts.now c.loop-i.i c.index-parts-i.result c.loop-i-test.true (at g.O.Output.written g.O.Output.failures c.args.voice.now c.args.output.now) (at g.O.Output.written g.O.Output.failures c.loop-i.voice c.loop-i.output) (at g.O.Output.written g.O.Output.failures c.tell_part.new.voice c.tell_part.new.output) c.loop-i.invariant (subst (λ (p : Part). Breaks (at g.O.Output.written g.O.Output.failures c.loop-i.voice c.loop-i.output) ((part_line (names_view c.args.names.now) (labels_view c.args.labels.now)) p) (at g.O.Output.written g.O.Output.failures c.tell_part.new.voice c.tell_part.new.output)) c.index-parts-i.is c.in_err-tell_part.ensures.err))

pub returns-clause-ok : goal.returns-clause-ok
returns-clause-ok g c =
    elements_added (part_line (names_view c.args.names.now) (labels_view c.args.labels.now)) c.args.parts.now c.loop-i.i (at g.O.Output.written g.O.Output.failures c.args.voice.now c.args.output.now) (at g.O.Output.written g.O.Output.failures c.loop-i.voice c.loop-i.output) c.loop-i-test.false c.loop-i.invariant
