use Rattle.std.proofs.Common.{ℕ, List, refl, sym, subst}
use Rattle.pb_search_engine.specs.ItemObjects.{comma_unless}
use Rattle.pb_voice.specs.Voices.{Adds, Breaks}
use Rattle.pb_search_engine.proofs.EntryLemmas.{one_entry, one_still}
use Rattle.pb_base.specs.Lines.{names_view}
use Rattle.pb_search_engine.specs.ItemObjects.{each, print_json}
use Rattle.pb_command_io.proofs.PageLemmas.{OnErr-of}
use Rattle.pb_voice.specs.Held.{at}
use Rattle.pb_voice.proofs.VoiceLemmas.{adds_more, breaks_later, breaks_sooner}
use Rattle.pb_search_engine.proofs.part_objects.tell_print_entry.Goals as goal

pub returns-in_err-say-clause-err : goal.returns-in_err-say-clause-err
returns-in_err-say-clause-err g c =
    OnErr-of c.from_residual.result
    (subst (λ (l : List ℕ). Breaks (at g.O.Output.written g.O.Output.failures c.args.voice.now c.args.output.now) l (at g.O.Output.written g.O.Output.failures c.say.new.self c.say.new.output)) (sym (one_entry (each) (print_json (names_view c.args.names.now)) c.args.first c.args.print refl))
    (breaks_sooner (at g.O.Output.written g.O.Output.failures c.args.voice.now c.args.output.now) (at g.O.Output.written g.O.Output.failures c.say.new.self c.say.new.output) (comma_unless c.args.first) (print_json (names_view c.args.names.now) c.args.print) (rw c.comma.ensures at c.in_err-say.ensures.err)))

pub returns-in_err-tell_print-clause-err : goal.returns-in_err-tell_print-clause-err
returns-in_err-tell_print-clause-err g c =
    OnErr-of c.from_residual-in_err-tell_print.result
    (subst (λ (l : List ℕ). Breaks (at g.O.Output.written g.O.Output.failures c.args.voice.now c.args.output.now) l (at g.O.Output.written g.O.Output.failures c.tell_print.new.voice c.tell_print.new.output)) (sym (one_entry (each) (print_json (names_view c.args.names.now)) c.args.first c.args.print refl))
    (breaks_later (at g.O.Output.written g.O.Output.failures c.args.voice.now c.args.output.now) (at g.O.Output.written g.O.Output.failures c.say.new.self c.say.new.output) (at g.O.Output.written g.O.Output.failures c.tell_print.new.voice c.tell_print.new.output) (comma_unless c.args.first) (print_json (names_view c.args.names.now) c.args.print) (rw c.comma.ensures at c.in_ok-say.ensures.ok) c.in_err-tell_print.ensures.err))

pub returns-clause-next : goal.returns-clause-next
returns-clause-next g c = one_still (each) (print_json (names_view c.args.names.now)) c.args.first c.args.print refl

pub returns-clause-ok : goal.returns-clause-ok
returns-clause-ok g c =
    subst (λ (l : List ℕ). Adds (at g.O.Output.written g.O.Output.failures c.args.voice.now c.args.output.now) l (at g.O.Output.written g.O.Output.failures c.tell_print.new.voice c.tell_print.new.output)) (sym (one_entry (each) (print_json (names_view c.args.names.now)) c.args.first c.args.print refl))
    (adds_more (at g.O.Output.written g.O.Output.failures c.args.voice.now c.args.output.now) (at g.O.Output.written g.O.Output.failures c.say.new.self c.say.new.output) (at g.O.Output.written g.O.Output.failures c.tell_print.new.voice c.tell_print.new.output) (comma_unless c.args.first) (print_json (names_view c.args.names.now) c.args.print) (rw c.comma.ensures at c.in_ok-say.ensures.ok) c.in_ok-tell_print.ensures.ok)
