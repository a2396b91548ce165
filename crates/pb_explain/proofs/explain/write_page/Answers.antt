use Rattle.std.proofs.Common.{◌++◌}
use Rattle.pb_explain.specs.Explanation.{plain_entry}
use Rattle.pb_explain.specs.Pages.{title_in}
use Rattle.pb_voice.specs.Held.{at}
use Rattle.pb_voice.specs.Texts.{text_as}
use Rattle.pb_command_io.specs.declared.status.Status.TheVariants.{Done}
use Rattle.pb_voice.proofs.EndLemmas.{text_written}
use Rattle.pb_explain.proofs.explain.write_page.Goals as goal

pub returns-in-Ok-clause-text : goal.returns-in-Ok-clause-text
returns-in-Ok-clause-text g c =
    text_written c.args.form (λ form. title_in form c.args.code (plain_entry c.args.entry.now) ++ text_as form c.args.body.now) (at g.O.Output.written g.O.Output.failures c.new-voice.result c.args.output.now)
    (at g.O.Output.written g.O.Output.failures c.say_page.new.voice c.say_page.new.output) c.new-voice.ensures
    (g.O.Output.written c.finish.new.output) Done c.finish.result c.in-Ok.ensures.ok (c.finish.ensures.text (λ e. cc))
