use Rattle.std.proofs.lemmas.Result.{on_ok_weaker, on_err_weaker}
use Rattle.pb_command_io.proofs.PageLemmas.{OnErr-of}
use Rattle.pb_voice.specs.Held.{at}
use Rattle.pb_voice.proofs.VoiceLemmas.{adds_more, breaks_later, breaks_sooner}
use Rattle.std.specs.List.{flat_map}
use Rattle.pb_json.specs.Strings.{escaped}
use Rattle.pb_plan_engine.proofs.objects.say_some_names.Goals as goal

pub returns-in_err-say_escaped-clause-err : goal.returns-in_err-say_escaped-clause-err
returns-in_err-say_escaped-clause-err g c =
    let before = at g.O.Output.written g.O.Output.failures c.args.voice.now c.args.output.now in
    let s1 = at g.O.Output.written g.O.Output.failures c.say_escaped.new.voice c.say_escaped.new.output in
    OnErr-of c.from_residual.result (breaks_sooner before s1 (flat_map escaped c.args.first.now) _ c.in_err-say_escaped.ensures.err)

pub returns-clause-ok : goal.returns-clause-ok
returns-clause-ok g c =
    let before = at g.O.Output.written g.O.Output.failures c.args.voice.now c.args.output.now in
    let s1 = at g.O.Output.written g.O.Output.failures c.say_escaped.new.voice c.say_escaped.new.output in
    let s2 = at g.O.Output.written g.O.Output.failures c.say_later_names.new.voice c.say_later_names.new.output in
    on_ok_weaker c.say_later_names.result (λ last. adds_more before s1 s2 (flat_map escaped c.args.first.now) _ c.in_ok-say_escaped.ensures.ok (last)) c.say_later_names.ensures.ok

pub returns-clause-err : goal.returns-clause-err
returns-clause-err g c =
    let before = at g.O.Output.written g.O.Output.failures c.args.voice.now c.args.output.now in
    let s1 = at g.O.Output.written g.O.Output.failures c.say_escaped.new.voice c.say_escaped.new.output in
    let s2 = at g.O.Output.written g.O.Output.failures c.say_later_names.new.voice c.say_later_names.new.output in
    on_err_weaker c.say_later_names.result (λ last. breaks_later before s1 s2 (flat_map escaped c.args.first.now) _ c.in_ok-say_escaped.ensures.ok (last)) c.say_later_names.ensures.err
