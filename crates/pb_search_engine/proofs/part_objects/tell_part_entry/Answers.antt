use Rattle.std.proofs.Common.{ℕ, List, ◌∙◌, sym, subst}
use Rattle.pb_search_engine.specs.ItemObjects.{comma_unless}
use Rattle.pb_voice.specs.Voices.{Adds, Breaks}
use Rattle.pb_voice.proofs.VoiceLemmas.{adds_nothing}
use Rattle.pb_search_engine.proofs.EntryLemmas.{no_entry, no_still, one_entry, one_still}
use Rattle.pb_base.specs.Lines.{names_view}
use Rattle.pb_code.specs.View.{labels_view}
use Rattle.pb_search_engine.specs.ItemObjects.{part_json}
use Rattle.pb_search_engine.specs.Parts.{is_of}
use Rattle.pb_command_io.proofs.PageLemmas.{OnErr-of}
use Rattle.pb_voice.specs.Held.{at}
use Rattle.pb_voice.proofs.VoiceLemmas.{adds_more, breaks_later, breaks_sooner}
use Rattle.pb_search_engine.proofs.part_objects.tell_part_entry.Goals as goal

pub returns-then-not-is_of-clause-ok : goal.returns-then-not-is_of-clause-ok
returns-then-not-is_of-clause-ok g c =
    subst (λ (l : List ℕ). Adds (at g.O.Output.written g.O.Output.failures c.args.voice.now c.args.output.now) l (at g.O.Output.written g.O.Output.failures c.args.voice.now c.args.output.now)) (sym (no_entry (is_of c.args.section) (part_json (names_view c.args.names.now) (labels_view c.args.labels.now)) c.args.first c.args.part.now (sym c.is_of.ensures ∙ c.if-not-is_of.true))) (adds_nothing (at g.O.Output.written g.O.Output.failures c.args.voice.now c.args.output.now))

pub returns-then-not-is_of-clause-next : goal.returns-then-not-is_of-clause-next
returns-then-not-is_of-clause-next g c = no_still (is_of c.args.section) (part_json (names_view c.args.names.now) (labels_view c.args.labels.now)) c.args.first c.args.part.now (sym c.is_of.ensures ∙ c.if-not-is_of.true)

pub returns-in_err-say-clause-err : goal.returns-in_err-say-clause-err
returns-in_err-say-clause-err g c =
    OnErr-of c.from_residual.result
    (subst (λ (l : List ℕ). Breaks (at g.O.Output.written g.O.Output.failures c.args.voice.now c.args.output.now) l (at g.O.Output.written g.O.Output.failures c.say.new.self c.say.new.output)) (sym (one_entry (is_of c.args.section) (part_json (names_view c.args.names.now) (labels_view c.args.labels.now)) c.args.first c.args.part.now (sym c.is_of.ensures ∙ c.if-not-is_of.false)))
    (breaks_sooner (at g.O.Output.written g.O.Output.failures c.args.voice.now c.args.output.now) (at g.O.Output.written g.O.Output.failures c.say.new.self c.say.new.output) (comma_unless c.args.first) (part_json (names_view c.args.names.now) (labels_view c.args.labels.now) c.args.part.now) (rw c.comma.ensures at c.in_err-say.ensures.err)))

pub returns-in_err-tell_part-clause-err : goal.returns-in_err-tell_part-clause-err
returns-in_err-tell_part-clause-err g c =
    OnErr-of c.from_residual-in_err-tell_part.result
    (subst (λ (l : List ℕ). Breaks (at g.O.Output.written g.O.Output.failures c.args.voice.now c.args.output.now) l (at g.O.Output.written g.O.Output.failures c.tell_part.new.voice c.tell_part.new.output)) (sym (one_entry (is_of c.args.section) (part_json (names_view c.args.names.now) (labels_view c.args.labels.now)) c.args.first c.args.part.now (sym c.is_of.ensures ∙ c.if-not-is_of.false)))
    (breaks_later (at g.O.Output.written g.O.Output.failures c.args.voice.now c.args.output.now) (at g.O.Output.written g.O.Output.failures c.say.new.self c.say.new.output) (at g.O.Output.written g.O.Output.failures c.tell_part.new.voice c.tell_part.new.output) (comma_unless c.args.first) (part_json (names_view c.args.names.now) (labels_view c.args.labels.now) c.args.part.now) (rw c.comma.ensures at c.in_ok-say.ensures.ok) c.in_err-tell_part.ensures.err))

pub returns-clause-next : goal.returns-clause-next
returns-clause-next g c = one_still (is_of c.args.section) (part_json (names_view c.args.names.now) (labels_view c.args.labels.now)) c.args.first c.args.part.now (sym c.is_of.ensures ∙ c.if-not-is_of.false)

pub returns-clause-ok : goal.returns-clause-ok
returns-clause-ok g c =
    subst (λ (l : List ℕ). Adds (at g.O.Output.written g.O.Output.failures c.args.voice.now c.args.output.now) l (at g.O.Output.written g.O.Output.failures c.tell_part.new.voice c.tell_part.new.output)) (sym (one_entry (is_of c.args.section) (part_json (names_view c.args.names.now) (labels_view c.args.labels.now)) c.args.first c.args.part.now (sym c.is_of.ensures ∙ c.if-not-is_of.false)))
    (adds_more (at g.O.Output.written g.O.Output.failures c.args.voice.now c.args.output.now) (at g.O.Output.written g.O.Output.failures c.say.new.self c.say.new.output) (at g.O.Output.written g.O.Output.failures c.tell_part.new.voice c.tell_part.new.output) (comma_unless c.args.first) (part_json (names_view c.args.names.now) (labels_view c.args.labels.now) c.args.part.now) (rw c.comma.ensures at c.in_ok-say.ensures.ok) c.in_ok-tell_part.ensures.ok)
