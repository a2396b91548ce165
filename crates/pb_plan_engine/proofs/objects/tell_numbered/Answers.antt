use Rattle.std.proofs.lemmas.Result.{on_ok_weaker, on_err_weaker}
use Rattle.pb_command_io.proofs.PageLemmas.{OnErr-of}
use Rattle.pb_voice.specs.Held.{at}
use Rattle.pb_voice.proofs.VoiceLemmas.{adds_more, breaks_later, breaks_sooner}
use Rattle.pb_plan_engine.specs.Objects.{front_json}
use Rattle.pb_plan_engine.proofs.objects.tell_numbered.Goals as goal

pub returns-in_err-say_front-clause-err : goal.returns-in_err-say_front-clause-err
returns-in_err-say_front-clause-err g c =
    let before = at g.O.Output.written g.O.Output.failures c.args.voice.now c.args.output.now in
    let s1 = at g.O.Output.written g.O.Output.failures c.say_front.new.voice c.say_front.new.output in
    OnErr-of c.from_residual.result (breaks_sooner before s1 (front_json c.args.number) _ c.in_err-say_front.ensures.err)

pub returns-clause-ok : goal.returns-clause-ok
returns-clause-ok g c =
    let before = at g.O.Output.written g.O.Output.failures c.args.voice.now c.args.output.now in
    let s1 = at g.O.Output.written g.O.Output.failures c.say_front.new.voice c.say_front.new.output in
    let s2 = at g.O.Output.written g.O.Output.failures c.say_code.new.voice c.say_code.new.output in
    on_ok_weaker c.say_code.result (λ last. adds_more before s1 s2 (front_json c.args.number) _ c.in_ok-say_front.ensures.ok (last)) (rw (c.text_cause.ensures, c.member_of.ensures) at c.say_code.ensures.ok)

pub returns-clause-err : goal.returns-clause-err
returns-clause-err g c =
    let before = at g.O.Output.written g.O.Output.failures c.args.voice.now c.args.output.now in
    let s1 = at g.O.Output.written g.O.Output.failures c.say_front.new.voice c.say_front.new.output in
    let s2 = at g.O.Output.written g.O.Output.failures c.say_code.new.voice c.say_code.new.output in
    on_err_weaker c.say_code.result (λ last. breaks_later before s1 s2 (front_json c.args.number) _ c.in_ok-say_front.ensures.ok (last)) (rw (c.text_cause.ensures, c.member_of.ensures) at c.say_code.ensures.err)
