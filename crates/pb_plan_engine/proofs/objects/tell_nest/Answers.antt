use Rattle.std.proofs.lemmas.Result.{on_ok_weaker, on_err_weaker}
use Rattle.pb_command_io.proofs.PageLemmas.{OnErr-of}
use Rattle.pb_voice.specs.Held.{at}
use Rattle.pb_voice.proofs.VoiceLemmas.{adds_more, breaks_later, breaks_sooner}
use Rattle.std.specs.Prelude.{codes}
use Rattle.pb_plan_engine.specs.Objects.{called_json}
use Rattle.pb_joint.specs.View.{full_name}
use Rattle.pb_plan_engine.proofs.objects.tell_nest.Goals as goal

pub returns-in_err-say_called-clause-err : goal.returns-in_err-say_called-clause-err
returns-in_err-say_called-clause-err g c =
    let before = at g.O.Output.written g.O.Output.failures c.args.voice.now c.args.output.now in
    let s1 = at g.O.Output.written g.O.Output.failures c.say_called.new.voice c.say_called.new.output in
    OnErr-of c.from_residual.result (breaks_sooner before s1 (called_json (codes "nest") (full_name c.args.nest.now.process)) _ c.in_err-say_called.ensures.err)

pub returns-clause-ok : goal.returns-clause-ok
returns-clause-ok g c =
    let before = at g.O.Output.written g.O.Output.failures c.args.voice.now c.args.output.now in
    let s1 = at g.O.Output.written g.O.Output.failures c.say_called.new.voice c.say_called.new.output in
    let s2 = at g.O.Output.written g.O.Output.failures c.say_holds.new.voice c.say_holds.new.output in
    on_ok_weaker c.say_holds.result (λ last. adds_more before s1 s2 (called_json (codes "nest") (full_name c.args.nest.now.process)) _ c.in_ok-say_called.ensures.ok (last)) c.say_holds.ensures.ok

pub returns-clause-err : goal.returns-clause-err
returns-clause-err g c =
    let before = at g.O.Output.written g.O.Output.failures c.args.voice.now c.args.output.now in
    let s1 = at g.O.Output.written g.O.Output.failures c.say_called.new.voice c.say_called.new.output in
    let s2 = at g.O.Output.written g.O.Output.failures c.say_holds.new.voice c.say_holds.new.output in
    on_err_weaker c.say_holds.result (λ last. breaks_later before s1 s2 (called_json (codes "nest") (full_name c.args.nest.now.process)) _ c.in_ok-say_called.ensures.ok (last)) c.say_holds.ensures.err
