use Rattle.std.proofs.Common.{◌++◌, codes}
use Rattle.pb_base.specs.Lines.{names_view}
use Rattle.pb_search_engine.specs.ItemObjects.{circle_head, picks_json}
use Rattle.std.proofs.lemmas.Result.{on_ok_weaker, on_err_weaker}
use Rattle.pb_command_io.proofs.PageLemmas.{OnErr-of}
use Rattle.pb_voice.specs.Held.{at}
use Rattle.pb_voice.proofs.VoiceLemmas.{adds_more, breaks_later, breaks_sooner}
use Rattle.pb_search_engine.proofs.item_objects.tell_circle.Goals as goal

pub returns-in_err-say_all-clause-err : goal.returns-in_err-say_all-clause-err
returns-in_err-say_all-clause-err g c =
    OnErr-of c.from_residual.result
    (breaks_sooner (at g.O.Output.written g.O.Output.failures c.args.voice.now c.args.output.now) (at g.O.Output.written g.O.Output.failures c.say_all.new.self c.say_all.new.output) (circle_head c.args.kind.now)
    (picks_json (names_view c.args.names.now) c.args.picks.now ++ codes "}\n") c.in_err-say_all.ensures.err)

pub returns-in_err-tell_pick_list-clause-err : goal.returns-in_err-tell_pick_list-clause-err
returns-in_err-tell_pick_list-clause-err g c =
    let list = picks_json (names_view c.args.names.now) c.args.picks.now in
    OnErr-of c.from_residual-in_err-tell_pick_list.result
    (breaks_later (at g.O.Output.written g.O.Output.failures c.args.voice.now c.args.output.now) (at g.O.Output.written g.O.Output.failures c.say_all.new.self c.say_all.new.output) (at g.O.Output.written g.O.Output.failures c.tell_pick_list.new.voice c.tell_pick_list.new.output) (circle_head c.args.kind.now)
    (list ++ codes "}\n") c.in_ok-say_all.ensures.ok (breaks_sooner (at g.O.Output.written g.O.Output.failures c.say_all.new.self c.say_all.new.output) (at g.O.Output.written g.O.Output.failures c.tell_pick_list.new.voice c.tell_pick_list.new.output) list (codes "}\n") c.in_err-tell_pick_list.ensures.err))

pub returns-clause-ok : goal.returns-clause-ok
returns-clause-ok g c =
    let list = picks_json (names_view c.args.names.now) c.args.picks.now in
    on_ok_weaker c.say.result
    (λ last. adds_more (at g.O.Output.written g.O.Output.failures c.args.voice.now c.args.output.now) (at g.O.Output.written g.O.Output.failures c.say_all.new.self c.say_all.new.output) (at g.O.Output.written g.O.Output.failures c.say.new.self c.say.new.output) (circle_head c.args.kind.now)
    (list ++ codes "}\n") c.in_ok-say_all.ensures.ok (adds_more (at g.O.Output.written g.O.Output.failures c.say_all.new.self c.say_all.new.output) (at g.O.Output.written g.O.Output.failures c.tell_pick_list.new.voice c.tell_pick_list.new.output) (at g.O.Output.written g.O.Output.failures c.say.new.self c.say.new.output) list (codes "}\n") c.in_ok-tell_pick_list.ensures.ok last)) c.say.ensures.ok

pub returns-clause-err : goal.returns-clause-err
returns-clause-err g c =
    let list = picks_json (names_view c.args.names.now) c.args.picks.now in
    on_err_weaker c.say.result
    (λ last. breaks_later (at g.O.Output.written g.O.Output.failures c.args.voice.now c.args.output.now) (at g.O.Output.written g.O.Output.failures c.say_all.new.self c.say_all.new.output) (at g.O.Output.written g.O.Output.failures c.say.new.self c.say.new.output) (circle_head c.args.kind.now)
    (list ++ codes "}\n") c.in_ok-say_all.ensures.ok (breaks_later (at g.O.Output.written g.O.Output.failures c.say_all.new.self c.say_all.new.output) (at g.O.Output.written g.O.Output.failures c.tell_pick_list.new.voice c.tell_pick_list.new.output) (at g.O.Output.written g.O.Output.failures c.say.new.self c.say.new.output) list (codes "}\n") c.in_ok-tell_pick_list.ensures.ok last)) c.say.ensures.err
