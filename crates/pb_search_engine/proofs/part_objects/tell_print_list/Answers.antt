use Rattle.std.proofs.Common.{◌++◌, codes, true}
use Rattle.pb_base.specs.Lines.{names_view}
use Rattle.pb_search_engine.specs.ItemObjects.{each, entries, print_json}
use Rattle.std.proofs.lemmas.Result.{on_ok_weaker, on_err_weaker}
use Rattle.pb_command_io.proofs.PageLemmas.{OnErr-of}
use Rattle.pb_voice.specs.Held.{at}
use Rattle.pb_voice.proofs.VoiceLemmas.{adds_more, breaks_later, breaks_sooner}
use Rattle.pb_search_engine.proofs.part_objects.tell_print_list.Goals as goal

pub returns-in_err-say-clause-err : goal.returns-in_err-say-clause-err
returns-in_err-say-clause-err g c =
    let names = names_view c.args.names.now in
    OnErr-of c.from_residual.result (breaks_sooner (at g.O.Output.written g.O.Output.failures c.args.voice.now c.args.output.now) (at g.O.Output.written g.O.Output.failures c.say.new.self c.say.new.output) (codes ",\"prints\":[") (entries each (print_json names) true c.args.prints.now ++ (codes "]")) c.in_err-say.ensures.err)

pub returns-in_err-tell_print_entries-clause-err : goal.returns-in_err-tell_print_entries-clause-err
returns-in_err-tell_print_entries-clause-err g c =
    let names = names_view c.args.names.now in
    OnErr-of c.from_residual-in_err-tell_print_entries.result (breaks_later (at g.O.Output.written g.O.Output.failures c.args.voice.now c.args.output.now) (at g.O.Output.written g.O.Output.failures c.say.new.self c.say.new.output) (at g.O.Output.written g.O.Output.failures c.tell_print_entries.new.voice c.tell_print_entries.new.output) (codes ",\"prints\":[") (entries each (print_json names) true c.args.prints.now ++ (codes "]")) c.in_ok-say.ensures.ok (breaks_sooner (at g.O.Output.written g.O.Output.failures c.say.new.self c.say.new.output) (at g.O.Output.written g.O.Output.failures c.tell_print_entries.new.voice c.tell_print_entries.new.output) (entries each (print_json names) true c.args.prints.now) (codes "]") c.in_err-tell_print_entries.ensures.err))

pub returns-clause-ok : goal.returns-clause-ok
returns-clause-ok g c =
    let names = names_view c.args.names.now in
    on_ok_weaker c.say-2.result (λ last. (adds_more (at g.O.Output.written g.O.Output.failures c.args.voice.now c.args.output.now) (at g.O.Output.written g.O.Output.failures c.say.new.self c.say.new.output) (at g.O.Output.written g.O.Output.failures c.say-2.new.self c.say-2.new.output) (codes ",\"prints\":[") (entries each (print_json names) true c.args.prints.now ++ (codes "]")) c.in_ok-say.ensures.ok (adds_more (at g.O.Output.written g.O.Output.failures c.say.new.self c.say.new.output) (at g.O.Output.written g.O.Output.failures c.tell_print_entries.new.voice c.tell_print_entries.new.output) (at g.O.Output.written g.O.Output.failures c.say-2.new.self c.say-2.new.output) (entries each (print_json names) true c.args.prints.now) (codes "]") c.in_ok-tell_print_entries.ensures.ok last))) c.say-2.ensures.ok

pub returns-clause-err : goal.returns-clause-err
returns-clause-err g c =
    let names = names_view c.args.names.now in
    on_err_weaker c.say-2.result (λ last. (breaks_later (at g.O.Output.written g.O.Output.failures c.args.voice.now c.args.output.now) (at g.O.Output.written g.O.Output.failures c.say.new.self c.say.new.output) (at g.O.Output.written g.O.Output.failures c.say-2.new.self c.say-2.new.output) (codes ",\"prints\":[") (entries each (print_json names) true c.args.prints.now ++ (codes "]")) c.in_ok-say.ensures.ok (breaks_later (at g.O.Output.written g.O.Output.failures c.say.new.self c.say.new.output) (at g.O.Output.written g.O.Output.failures c.tell_print_entries.new.voice c.tell_print_entries.new.output) (at g.O.Output.written g.O.Output.failures c.say-2.new.self c.say-2.new.output) (entries each (print_json names) true c.args.prints.now) (codes "]") c.in_ok-tell_print_entries.ensures.ok last))) c.say-2.ensures.err
