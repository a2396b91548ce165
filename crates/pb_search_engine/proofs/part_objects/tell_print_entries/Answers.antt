use Rattle.std.proofs.Common.{pos, refl}
use Rattle.pb_command_io.proofs.PageLemmas.{OnErr-of}
use Rattle.pb_base.specs.Lines.{names_view}
use Rattle.pb_search_engine.specs.ItemObjects.{each, print_json}
use Rattle.pb_voice.specs.Held.{at}
use Rattle.pb_voice.proofs.VoiceLemmas.{adds_nothing}
use Rattle.pb_search_engine.proofs.EntryLemmas.{entries_added, entry_added, entry_broken, still_more}
use Rattle.pb_search_engine.proofs.part_objects.tell_print_entries.Goals as goal

pub loop-i-init : goal.loop-i-init
loop-i-init g c = (adds_nothing (at g.O.Output.written g.O.Output.failures c.args.voice.now c.args.output.now), refl)

pub loop-i-preserved : goal.loop-i-preserved
loop-i-preserved g c = (
  entry_added (each) (print_json (names_view c.args.names.now)) c.args.prints.now c.loop-i.i (record { pick = record { process = 0; arm = 0 }; value = pos 0 }) c.loop-i-test.true c.loop-i.first c.loop-i.invariant.1 (at g.O.Output.written g.O.Output.failures c.args.voice.now c.args.output.now) (at g.O.Output.written g.O.Output.failures c.loop-i.voice c.loop-i.output) (at g.O.Output.written g.O.Output.failures c.tell_print_entry.new.voice c.tell_print_entry.new.output) c.loop-i.invariant.0 c.in_ok-first.ensures.ok,
  still_more (each) (print_json (names_view c.args.names.now)) c.args.prints.now c.loop-i.i (record { pick = record { process = 0; arm = 0 }; value = pos 0 }) c.loop-i-test.true c.loop-i.first c.loop-i.invariant.1 c.in_ok-first.first c.in_ok-first.ensures.next,
)

pub returns-in_err-first-clause-err : goal.returns-in_err-first-clause-err
returns-in_err-first-clause-err g c =
    OnErr-of c.from_residual.result
    (entry_broken (each) (print_json (names_view c.args.names.now)) c.args.prints.now c.loop-i.i (record { pick = record { process = 0; arm = 0 }; value = pos 0 }) c.loop-i-test.true c.loop-i.first c.loop-i.invariant.1 (at g.O.Output.written g.O.Output.failures c.args.voice.now c.args.output.now) (at g.O.Output.written g.O.Output.failures c.loop-i.voice c.loop-i.output) (at g.O.Output.written g.O.Output.failures c.tell_print_entry.new.voice c.tell_print_entry.new.output) c.loop-i.invariant.0 c.in_err-first.ensures.err)

pub returns-clause-ok : goal.returns-clause-ok
returns-clause-ok g c =
    entries_added (each) (print_json (names_view c.args.names.now)) c.args.prints.now c.loop-i.i (at g.O.Output.written g.O.Output.failures c.args.voice.now c.args.output.now) (at g.O.Output.written g.O.Output.failures c.loop-i.voice c.loop-i.output) c.loop-i-test.false c.loop-i.invariant.0
