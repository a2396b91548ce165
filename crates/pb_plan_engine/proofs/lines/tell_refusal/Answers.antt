use Rattle.std.proofs.lemmas.Result.{on_ok_weaker, on_err_weaker}
use Rattle.pb_command_io.proofs.PageLemmas.{OnErr-of}
use Rattle.pb_voice.specs.Held.{at}
use Rattle.pb_voice.proofs.VoiceLemmas.{adds_more, breaks_later, breaks_sooner}
use Rattle.pb_plan_engine.specs.Sayings.{text_words}
use Rattle.pb_plan_engine.proofs.lines.tell_refusal.Goals as goal

pub returns-in_err-say_number-clause-err : goal.returns-in_err-say_number-clause-err
returns-in_err-say_number-clause-err g c =
    let before = at g.O.Output.written g.O.Output.failures c.args.voice.now c.args.output.now in
    let s1 = at g.O.Output.written g.O.Output.failures c.say_number.new.voice c.say_number.new.output in
    OnErr-of c.from_residual.result (breaks_sooner before s1 (text_words c.args.refusal.now.text) _ c.in_err-say_number.ensures.err)

pub returns-clause-ok : goal.returns-clause-ok
returns-clause-ok g c =
    let before = at g.O.Output.written g.O.Output.failures c.args.voice.now c.args.output.now in
    let s1 = at g.O.Output.written g.O.Output.failures c.say_number.new.voice c.say_number.new.output in
    let s2 = at g.O.Output.written g.O.Output.failures c.tell_line.new.voice c.tell_line.new.output in
    on_ok_weaker c.tell_line.result (λ last. adds_more before s1 s2 (text_words c.args.refusal.now.text) _ c.in_ok-say_number.ensures.ok (last)) c.tell_line.ensures.ok

pub returns-clause-err : goal.returns-clause-err
returns-clause-err g c =
    let before = at g.O.Output.written g.O.Output.failures c.args.voice.now c.args.output.now in
    let s1 = at g.O.Output.written g.O.Output.failures c.say_number.new.voice c.say_number.new.output in
    let s2 = at g.O.Output.written g.O.Output.failures c.tell_line.new.voice c.tell_line.new.output in
    on_err_weaker c.tell_line.result (λ last. breaks_later before s1 s2 (text_words c.args.refusal.now.text) _ c.in_ok-say_number.ensures.ok (last)) c.tell_line.ensures.err
