use Rattle.std.proofs.Common.{subst}
use Rattle.std.proofs.lemmas.Result.{on_ok_weaker, on_err_weaker}
use Rattle.pb_command_io.proofs.PageLemmas.{OnErr-of}
use Rattle.pb_explain.specs.Explanation.{plain_entry}
use Rattle.pb_explain.specs.Pages.{title_in}
use Rattle.pb_voice.specs.Held.{at}
use Rattle.pb_voice.specs.Texts.{text_as}
use Rattle.pb_voice.specs.Voices.{Adds, Breaks}
use Rattle.pb_voice.specs.declared.form.Form.{Form}
use Rattle.pb_voice.proofs.VoiceLemmas.{adds_more, breaks_later, breaks_sooner}
use Rattle.pb_explain.proofs.explain.say_page.Goals as goal

pub returns-in_err-say_title-clause-err : goal.returns-in_err-say_title-clause-err
returns-in_err-say_title-clause-err g c =
    OnErr-of c.from_residual.result
    (breaks_sooner (at g.O.Output.written g.O.Output.failures c.args.voice.now c.args.output.now)
    (at g.O.Output.written g.O.Output.failures c.say_title.new.voice c.say_title.new.output)
    (title_in c.args.voice.now.form c.args.code (plain_entry c.args.entry.now)) (text_as c.args.voice.now.form c.args.body.now)
    c.in_err-say_title.ensures.err)

pub returns-clause-ok : goal.returns-clause-ok
returns-clause-ok g c =
    let before = at g.O.Output.written g.O.Output.failures c.args.voice.now c.args.output.now in
    let said = at g.O.Output.written g.O.Output.failures c.say_title.new.voice c.say_title.new.output in
    let after = at g.O.Output.written g.O.Output.failures c.say_text.new.voice c.say_text.new.output in
    let form = c.args.voice.now.form in
    let first : Adds before (title_in form c.args.code (plain_entry c.args.entry.now)) said = c.in_ok-say_title.ensures.ok in
    on_ok_weaker c.say_text.result
    (λ later. adds_more before said after (title_in form c.args.code (plain_entry c.args.entry.now)) (text_as form c.args.body.now) first
    (subst (λ (f : Form). Adds said (text_as f c.args.body.now) after) first.form later))
    c.say_text.ensures.ok

pub returns-clause-err : goal.returns-clause-err
returns-clause-err g c =
    let before = at g.O.Output.written g.O.Output.failures c.args.voice.now c.args.output.now in
    let said = at g.O.Output.written g.O.Output.failures c.say_title.new.voice c.say_title.new.output in
    let after = at g.O.Output.written g.O.Output.failures c.say_text.new.voice c.say_text.new.output in
    let form = c.args.voice.now.form in
    let first : Adds before (title_in form c.args.code (plain_entry c.args.entry.now)) said = c.in_ok-say_title.ensures.ok in
    on_err_weaker c.say_text.result
    (λ later. breaks_later before said after (title_in form c.args.code (plain_entry c.args.entry.now)) (text_as form c.args.body.now) first
    (subst (λ (f : Form). Breaks said (text_as f c.args.body.now) after) first.form later))
    c.say_text.ensures.err
