use Rattle.pb_command_io.proofs.PageLemmas.{OnErr-of}
use Rattle.pb_voice.specs.Held.{at}
use Rattle.pb_voice.specs.Voices.{Adds, Breaks}
use Rattle.pb_voice.proofs.VoiceLemmas.{adds_nothing, element_added, element_broken, elements_added}
use Rattle.std.proofs.Common.{Vec, Global, ℕ, subst}
use Rattle.pb_plan_engine.specs.Sayings.{name_text}
use Rattle.pb_plan_engine.proofs.lines.say_names.Goals as goal

pub loop-i-init : goal.loop-i-init
loop-i-init g c = adds_nothing (at g.O.Output.written g.O.Output.failures c.args.voice.now c.args.output.now)

pub loop-i-preserved : goal.loop-i-preserved
loop-i-preserved g c =
    element_added (λ (name : Vec ℕ Global). name_text name.items) c.args.names.now c.loop-i.i c.index-names-i.result c.loop-i-test.true
    (at g.O.Output.written g.O.Output.failures c.args.voice.now c.args.output.now)
    (at g.O.Output.written g.O.Output.failures c.loop-i.voice c.loop-i.output)
    (at g.O.Output.written g.O.Output.failures c.say_all.new.self c.say_all.new.output) c.loop-i.invariant
    (subst (λ (name : Vec ℕ Global). Adds (at g.O.Output.written g.O.Output.failures c.loop-i.voice c.loop-i.output) (name_text name.items)
    (at g.O.Output.written g.O.Output.failures c.say_all.new.self c.say_all.new.output)) c.index-names-i.is (rw c.deref.ensures.value at c.in_ok-say_all.ensures.ok))

pub returns-in_err-say_all-clause-err : goal.returns-in_err-say_all-clause-err
returns-in_err-say_all-clause-err g c =
    OnErr-of c.from_residual.result
    (element_broken (λ (name : Vec ℕ Global). name_text name.items) c.args.names.now c.loop-i.i c.index-names-i.result c.loop-i-test.true
    (at g.O.Output.written g.O.Output.failures c.args.voice.now c.args.output.now)
    (at g.O.Output.written g.O.Output.failures c.loop-i.voice c.loop-i.output)
    (at g.O.Output.written g.O.Output.failures c.say_all.new.self c.say_all.new.output) c.loop-i.invariant
    (subst (λ (name : Vec ℕ Global). Breaks (at g.O.Output.written g.O.Output.failures c.loop-i.voice c.loop-i.output) (name_text name.items)
    (at g.O.Output.written g.O.Output.failures c.say_all.new.self c.say_all.new.output)) c.index-names-i.is (rw c.deref.ensures.value at c.in_err-say_all.ensures.err)))

pub returns-clause-ok : goal.returns-clause-ok
returns-clause-ok g c =
    elements_added (λ (name : Vec ℕ Global). name_text name.items) c.args.names.now c.loop-i.i
    (at g.O.Output.written g.O.Output.failures c.args.voice.now c.args.output.now)
    (at g.O.Output.written g.O.Output.failures c.loop-i.voice c.loop-i.output) c.loop-i-test.false c.loop-i.invariant
