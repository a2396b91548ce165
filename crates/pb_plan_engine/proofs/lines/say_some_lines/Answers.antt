use Rattle.std.proofs.lemmas.Result.{on_ok_weaker, on_err_weaker}
use Rattle.pb_command_io.proofs.PageLemmas.{OnErr-of}
use Rattle.pb_voice.specs.Held.{at}
use Rattle.pb_voice.proofs.VoiceLemmas.{adds_more, breaks_later, breaks_sooner}
use Rattle.std.specs.Prelude.{codes}
use Rattle.pb_plan_engine.proofs.lines.say_some_lines.Goals as goal

pub returns-in_err-say-clause-err : goal.returns-in_err-say-clause-err
returns-in_err-say-clause-err g c =
    let before = at g.O.Output.written g.O.Output.failures c.args.voice.now c.args.output.now in
    let s1 = at g.O.Output.written g.O.Output.failures c.say.new.self c.say.new.output in
    OnErr-of c.from_residual.result (breaks_sooner before s1 (codes " lines") _ c.in_err-say.ensures.err)

pub returns-clause-ok : goal.returns-clause-ok
returns-clause-ok g c =
    let before = at g.O.Output.written g.O.Output.failures c.args.voice.now c.args.output.now in
    let s1 = at g.O.Output.written g.O.Output.failures c.say.new.self c.say.new.output in
    let s2 = at g.O.Output.written g.O.Output.failures c.say_numbers.new.voice c.say_numbers.new.output in
    on_ok_weaker c.say_numbers.result (λ last. adds_more before s1 s2 (codes " lines") _ c.in_ok-say.ensures.ok (last)) c.say_numbers.ensures.ok

pub returns-clause-err : goal.returns-clause-err
returns-clause-err g c =
    let before = at g.O.Output.written g.O.Output.failures c.args.voice.now c.args.output.now in
    let s1 = at g.O.Output.written g.O.Output.failures c.say.new.self c.say.new.output in
    let s2 = at g.O.Output.written g.O.Output.failures c.say_numbers.new.voice c.say_numbers.new.output in
    on_err_weaker c.say_numbers.result (λ last. breaks_later before s1 s2 (codes " lines") _ c.in_ok-say.ensures.ok (last)) c.say_numbers.ensures.err
