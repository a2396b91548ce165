use Rattle.std.proofs.lemmas.Result.{on_ok_weaker, on_err_weaker}
use Rattle.pb_command_io.proofs.PageLemmas.{OnErr-of}
use Rattle.pb_voice.specs.Held.{at}
use Rattle.pb_voice.proofs.VoiceLemmas.{adds_more, breaks_later, breaks_sooner}
use Rattle.std.specs.List.{flat_map}
use Rattle.pb_plan_engine.specs.Objects.{first_json, later_json}
use Rattle.pb_plan_engine.proofs.objects.say_some_lines.Goals as goal

pub returns-in_err-say_first-clause-err : goal.returns-in_err-say_first-clause-err
returns-in_err-say_first-clause-err g c =
    let before = at g.O.Output.written g.O.Output.failures c.args.voice.now c.args.output.now in
    let s1 = at g.O.Output.written g.O.Output.failures c.say_first.new.voice c.say_first.new.output in
    OnErr-of c.from_residual.result (breaks_sooner before s1 (first_json c.args.first) _ c.in_err-say_first.ensures.err)

pub returns-in_err-say_later-clause-err : goal.returns-in_err-say_later-clause-err
returns-in_err-say_later-clause-err g c =
    let before = at g.O.Output.written g.O.Output.failures c.args.voice.now c.args.output.now in
    let s1 = at g.O.Output.written g.O.Output.failures c.say_first.new.voice c.say_first.new.output in
    let s2 = at g.O.Output.written g.O.Output.failures c.say_later.new.voice c.say_later.new.output in
    OnErr-of c.from_residual-in_err-say_later.result (breaks_later before s1 s2 (first_json c.args.first) _ c.in_ok-say_first.ensures.ok (breaks_sooner s1 s2 (flat_map later_json c.args.later.now) _ c.in_err-say_later.ensures.err))

pub returns-clause-ok : goal.returns-clause-ok
returns-clause-ok g c =
    let before = at g.O.Output.written g.O.Output.failures c.args.voice.now c.args.output.now in
    let s1 = at g.O.Output.written g.O.Output.failures c.say_first.new.voice c.say_first.new.output in
    let s2 = at g.O.Output.written g.O.Output.failures c.say_later.new.voice c.say_later.new.output in
    let s3 = at g.O.Output.written g.O.Output.failures c.say.new.self c.say.new.output in
    on_ok_weaker c.say.result (λ last. adds_more before s1 s3 (first_json c.args.first) _ c.in_ok-say_first.ensures.ok (adds_more s1 s2 s3 (flat_map later_json c.args.later.now) _ c.in_ok-say_later.ensures.ok (last))) c.say.ensures.ok

pub returns-clause-err : goal.returns-clause-err
returns-clause-err g c =
    let before = at g.O.Output.written g.O.Output.failures c.args.voice.now c.args.output.now in
    let s1 = at g.O.Output.written g.O.Output.failures c.say_first.new.voice c.say_first.new.output in
    let s2 = at g.O.Output.written g.O.Output.failures c.say_later.new.voice c.say_later.new.output in
    let s3 = at g.O.Output.written g.O.Output.failures c.say.new.self c.say.new.output in
    on_err_weaker c.say.result (λ last. breaks_later before s1 s3 (first_json c.args.first) _ c.in_ok-say_first.ensures.ok (breaks_later s1 s2 s3 (flat_map later_json c.args.later.now) _ c.in_ok-say_later.ensures.ok (last))) c.say.ensures.err
