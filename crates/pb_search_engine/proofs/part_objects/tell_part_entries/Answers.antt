use Rattle.std.proofs.Common.{◌≡◌, [], ◌∷◌, refl, subst}
use Rattle.pb_search_engine.specs.ItemObjects.{entries, still_first}
use Rattle.pb_voice.specs.Voices.{Adds, Breaks}
use Rattle.pb_command_io.proofs.PageLemmas.{OnErr-of}
use Rattle.pb_base.specs.Lines.{names_view}
use Rattle.pb_code.specs.View.{labels_view}
use Rattle.pb_search_engine.specs.ItemObjects.{part_json}
use Rattle.pb_search_engine.specs.Parts.{is_of}
use Rattle.pb_search_engine.specs.declared.part.Part.{Part}
use Rattle.pb_voice.specs.Held.{at}
use Rattle.pb_voice.proofs.VoiceLemmas.{adds_nothing}
use Rattle.pb_search_engine.proofs.EntryLemmas.{entries_added, entry_added, entry_broken, still_more}
use Rattle.pb_search_engine.proofs.part_objects.tell_part_entries.Goals as goal

pub loop-i-init : goal.loop-i-init
loop-i-init g c = (adds_nothing (at g.O.Output.written g.O.Output.failures c.args.voice.now c.args.output.now), refl)

pub loop-i-preserved : goal.loop-i-preserved
loop-i-preserved g c = (
  entry_added (is_of c.args.section) (part_json (names_view c.args.names.now) (labels_view c.args.labels.now)) c.args.parts.now c.loop-i.i c.index-parts-i.result c.loop-i-test.true c.loop-i.first c.loop-i.invariant.1 (at g.O.Output.written g.O.Output.failures c.args.voice.now c.args.output.now) (at g.O.Output.written g.O.Output.failures c.loop-i.voice c.loop-i.output) (at g.O.Output.written g.O.Output.failures c.tell_part_entry.new.voice c.tell_part_entry.new.output) c.loop-i.invariant.0 (subst (λ (p : Part). Adds (at g.O.Output.written g.O.Output.failures c.loop-i.voice c.loop-i.output) (entries (is_of c.args.section) (part_json (names_view c.args.names.now) (labels_view c.args.labels.now)) c.loop-i.first (p ∷ [])) (at g.O.Output.written g.O.Output.failures c.tell_part_entry.new.voice c.tell_part_entry.new.output)) c.index-parts-i.is c.in_ok-first.ensures.ok),
  still_more (is_of c.args.section) (part_json (names_view c.args.names.now) (labels_view c.args.labels.now)) c.args.parts.now c.loop-i.i c.index-parts-i.result c.loop-i-test.true c.loop-i.first c.loop-i.invariant.1 c.in_ok-first.first (subst (λ (p : Part). c.in_ok-first.first ≡ still_first (is_of c.args.section) c.loop-i.first (p ∷ [])) c.index-parts-i.is c.in_ok-first.ensures.next),
)

pub returns-in_err-first-clause-err : goal.returns-in_err-first-clause-err
returns-in_err-first-clause-err g c =
    OnErr-of c.from_residual.result
    (entry_broken (is_of c.args.section) (part_json (names_view c.args.names.now) (labels_view c.args.labels.now)) c.args.parts.now c.loop-i.i c.index-parts-i.result c.loop-i-test.true c.loop-i.first c.loop-i.invariant.1 (at g.O.Output.written g.O.Output.failures c.args.voice.now c.args.output.now) (at g.O.Output.written g.O.Output.failures c.loop-i.voice c.loop-i.output) (at g.O.Output.written g.O.Output.failures c.tell_part_entry.new.voice c.tell_part_entry.new.output) c.loop-i.invariant.0 (subst (λ (p : Part). Breaks (at g.O.Output.written g.O.Output.failures c.loop-i.voice c.loop-i.output) (entries (is_of c.args.section) (part_json (names_view c.args.names.now) (labels_view c.args.labels.now)) c.loop-i.first (p ∷ [])) (at g.O.Output.written g.O.Output.failures c.tell_part_entry.new.voice c.tell_part_entry.new.output)) c.index-parts-i.is c.in_err-first.ensures.err))

pub returns-clause-ok : goal.returns-clause-ok
returns-clause-ok g c =
    entries_added (is_of c.args.section) (part_json (names_view c.args.names.now) (labels_view c.args.labels.now)) c.args.parts.now c.loop-i.i (at g.O.Output.written g.O.Output.failures c.args.voice.now c.args.output.now) (at g.O.Output.written g.O.Output.failures c.loop-i.voice c.loop-i.output) c.loop-i-test.false c.loop-i.invariant.0
