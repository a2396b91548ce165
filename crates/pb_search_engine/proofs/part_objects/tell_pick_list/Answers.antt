use Rattle.std.proofs.Common.{◌++◌, codes, true}
use Rattle.pb_base.specs.Lines.{names_view}
use Rattle.pb_search_engine.specs.ItemObjects.{each, entries, counted_pick_json}
use Rattle.std.proofs.lemmas.Result.{on_ok_weaker, on_err_weaker}
use Rattle.pb_command_io.proofs.PageLemmas.{OnErr-of}
use Rattle.pb_voice.specs.Held.{at}
use Rattle.pb_voice.proofs.VoiceLemmas.{adds_more, breaks_later, breaks_sooner}
use Rattle.pb_search_engine.proofs.part_objects.tell_pick_list.Goals as goal

pub returns-in_err-say-clause-err : goal.returns-in_err-say-clause-err
returns-in_err-say-clause-err g c =
    let names = names_view c.args.names.now in
    OnErr-of c.from_residual.result (breaks_sooner (at g.O.Output.written g.O.Output.failures c.args.voice.now c.args.output.now) (at g.O.Output.written g.O.Output.failures c.say.new.self c.say.new.output) (codes ",\"picks\":[") (entries each (counted_pick_json names) true c.args.picks.now ++ (codes "]")) c.in_err-say.ensures.err)

pub returns-in_err-tell_pick_entries-clause-err : goal.returns-in_err-tell_pick_entries-clause-err
returns-in_err-tell_pick_entries-clause-err g c =
    let names = names_view c.args.names.now in
    OnErr-of c.from_residual-in_err-tell_pick_entries.result (breaks_later (at g.O.Output.written g.O.Output.failures c.args.voice.now c.args.output.now) (at g.O.Output.written g.O.Output.failures c.say.new.self c.say.new.output) (at g.O.Output.written g.O.Output.failures c.tell_pick_entries.new.voice c.tell_pick_entries.new.output) (codes ",\"picks\":[") (entries each (counted_pick_json names) true c.args.picks.now ++ (codes "]")) c.in_ok-say.ensures.ok (breaks_sooner (at g.O.Output.written g.O.Output.failures c.say.new.self c.say.new.output) (at g.O.Output.written g.O.Output.failures c.tell_pick_entries.new.voice c.tell_pick_entries.new.output) (entries each (counted_pick_json names) true c.args.picks.now) (codes "]") c.in_err-tell_pick_entries.ensures.err))

pub returns-clause-ok : goal.returns-clause-ok
returns-clause-ok g c =
    let names = names_view c.args.names.now in
    on_ok_weaker c.say-2.result (λ last. (adds_more (at g.O.Output.written g.O.Output.failures c.args.voice.now c.args.output.now) (at g.O.Output.written g.O.Output.failures c.say.new.self c.say.new.output) (at g.O.Output.written g.O.Output.failures c.say-2.new.self c.say-2.new.output) (codes ",\"picks\":[") (entries each (counted_pick_json names) true c.args.picks.now ++ (codes "]")) c.in_ok-say.ensures.ok (adds_more (at g.O.Output.written g.O.Output.failures c.say.new.self c.say.new.output) (at g.O.Output.written g.O.Output.failures c.tell_pick_entries.new.voice c.tell_pick_entries.new.output) (at g.O.Output.written g.O.Output.failures c.say-2.new.self c.say-2.new.output) (entries each (counted_pick_json names) true c.args.picks.now) (codes "]") c.in_ok-tell_pick_entries.ensures.ok last))) c.say-2.ensures.ok

pub returns-clause-err : goal.returns-clause-err
returns-clause-err g c =
    let names = names_view c.args.names.now in
    on_err_weaker c.say-2.result (λ last. (breaks_later (at g.O.Output.written g.O.Output.failures c.args.voice.now c.args.output.now) (at g.O.Output.written g.O.Output.failures c.say.new.self c.say.new.output) (at g.O.Output.written g.O.Output.failures c.say-2.new.self c.say-2.new.output) (codes ",\"picks\":[") (entries each (counted_pick_json names) true c.args.picks.now ++ (codes "]")) c.in_ok-say.ensures.ok (breaks_later (at g.O.Output.written g.O.Output.failures c.say.new.self c.say.new.output) (at g.O.Output.written g.O.Output.failures c.tell_pick_entries.new.voice c.tell_pick_entries.new.output) (at g.O.Output.written g.O.Output.failures c.say-2.new.self c.say-2.new.output) (entries each (counted_pick_json names) true c.args.picks.now) (codes "]") c.in_ok-tell_pick_entries.ensures.ok last))) c.say-2.ensures.err
