use Rattle.pb_command_io.proofs.PageLemmas.{OnErr-of}
use Rattle.pb_voice.specs.Held.{at}
use Rattle.pb_voice.proofs.VoiceLemmas.{adds_nothing, element_added, element_broken, elements_added}
use Rattle.pb_plan_engine.specs.Objects.{later_json}
use Rattle.pb_plan_engine.proofs.objects.say_later.Goals as goal

pub loop-i-init : goal.loop-i-init
loop-i-init g c = adds_nothing (at g.O.Output.written g.O.Output.failures c.args.voice.now c.args.output.now)

pub loop-i-preserved : goal.loop-i-preserved
loop-i-preserved g c =
    element_added (later_json) c.args.parts.now c.loop-i.i _ c.loop-i-test.true
    (at g.O.Output.written g.O.Output.failures c.args.voice.now c.args.output.now)
    (at g.O.Output.written g.O.Output.failures c.loop-i.voice c.loop-i.output)
    (at g.O.Output.written g.O.Output.failures c.say_all.new.self c.say_all.new.output) c.loop-i.invariant (rw (c.as_bytes.ensures.value, c.format.ensures.text) at c.in_ok-say_all.ensures.ok)

pub returns-in_err-say_all-clause-err : goal.returns-in_err-say_all-clause-err
returns-in_err-say_all-clause-err g c =
    OnErr-of c.from_residual.result
    (element_broken (later_json) c.args.parts.now c.loop-i.i _ c.loop-i-test.true
    (at g.O.Output.written g.O.Output.failures c.args.voice.now c.args.output.now)
    (at g.O.Output.written g.O.Output.failures c.loop-i.voice c.loop-i.output)
    (at g.O.Output.written g.O.Output.failures c.say_all.new.self c.say_all.new.output) c.loop-i.invariant (rw (c.as_bytes.ensures.value, c.format.ensures.text) at c.in_err-say_all.ensures.err))

pub returns-clause-ok : goal.returns-clause-ok
returns-clause-ok g c =
    elements_added (later_json) c.args.parts.now c.loop-i.i
    (at g.O.Output.written g.O.Output.failures c.args.voice.now c.args.output.now)
    (at g.O.Output.written g.O.Output.failures c.loop-i.voice c.loop-i.output) c.loop-i-test.false c.loop-i.invariant
