use Rattle.pb_command_io.proofs.PageLemmas.{OnErr-of}
use Rattle.pb_explain.specs.Entries.{entry_of}
use Rattle.pb_explain.specs.Pages.{title_in}
use Rattle.pb_voice.specs.Held.{at}
use Rattle.pb_voice.proofs.VoiceLemmas.{adds_nothing, element_added, element_broken, elements_added}
use Rattle.pb_explain.proofs.TitleLemmas.{title_added, title_breaks}
use Rattle.pb_explain.proofs.explain.say_titles.Goals as goal

pub loop-i-init : goal.loop-i-init
loop-i-init g c = adds_nothing (at g.O.Output.written g.O.Output.failures c.args.voice.now c.args.output.now)

pub loop-i-preserved : goal.loop-i-preserved
loop-i-preserved g c =
    let form = c.args.voice.now.form in
    let before = at g.O.Output.written g.O.Output.failures c.args.voice.now c.args.output.now in
    let here = at g.O.Output.written g.O.Output.failures c.loop-i.voice c.loop-i.output in
    let after = at g.O.Output.written g.O.Output.failures c.say_title.new.voice c.say_title.new.output in
    element_added (λ code. title_in form code (entry_of code)) c.args.listed.now c.loop-i.i _ c.loop-i-test.true before here after c.loop-i.invariant
    (title_added _ c.loop-i.voice.form form _ _ here after c.loop-i.invariant.form c.entry_for.ensures c.in_ok-say_title.ensures.ok)

pub returns-in_err-say_title-clause-err : goal.returns-in_err-say_title-clause-err
returns-in_err-say_title-clause-err g c =
    let form = c.args.voice.now.form in
    let before = at g.O.Output.written g.O.Output.failures c.args.voice.now c.args.output.now in
    let here = at g.O.Output.written g.O.Output.failures c.loop-i.voice c.loop-i.output in
    let after = at g.O.Output.written g.O.Output.failures c.say_title.new.voice c.say_title.new.output in
    OnErr-of c.from_residual.result
    (element_broken (λ code. title_in form code (entry_of code)) c.args.listed.now c.loop-i.i _ c.loop-i-test.true before here after c.loop-i.invariant
    (title_breaks _ c.loop-i.voice.form form _ _ here after c.loop-i.invariant.form c.entry_for.ensures c.in_err-say_title.ensures.err))

pub returns-clause-ok : goal.returns-clause-ok
returns-clause-ok g c =
    elements_added (λ code. title_in c.args.voice.now.form code (entry_of code)) c.args.listed.now c.loop-i.i
    (at g.O.Output.written g.O.Output.failures c.args.voice.now c.args.output.now)
    (at g.O.Output.written g.O.Output.failures c.loop-i.voice c.loop-i.output) c.loop-i-test.false c.loop-i.invariant
