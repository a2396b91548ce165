use Rattle.std.proofs.Common.{ℕ, List, ap, subst}
use Rattle.pb_command_io.specs.Answers.{Says}
use Rattle.pb_command_io.specs.declared.status.Status.TheVariants.{Device, Done}
use Rattle.pb_explain.specs.Pages.{list_of_codes}
use Rattle.pb_voice.specs.Held.{at}
use Rattle.pb_voice.proofs.EndLemmas.{text_broken, text_written}
use Rattle.pb_explain.proofs.explain.write_list.Goals as goal

pub returns-in-Ok-clause-text : goal.returns-in-Ok-clause-text
returns-in-Ok-clause-text g c =
    subst (λ (t : List ℕ). Says (g.O.Output.written c.args.output.now) (g.O.Output.written c.finish.new.output) t Done c.finish.result)
    (ap (list_of_codes c.args.form) c.as_slice.ensures)
    (text_written c.args.form (λ form. list_of_codes form c.as_slice.result.now) (at g.O.Output.written g.O.Output.failures c.new-voice.result c.args.output.now)
    (at g.O.Output.written g.O.Output.failures c.say_titles.new.voice c.say_titles.new.output) c.new-voice.ensures
    (g.O.Output.written c.finish.new.output) Done c.finish.result c.in-Ok.ensures.ok (c.finish.ensures.text (λ e. cc)))

pub returns-in-Err-clause-text : goal.returns-in-Err-clause-text
returns-in-Err-clause-text g c =
    subst (λ (t : List ℕ). Says (g.O.Output.written c.args.output.now) (g.O.Output.written c.say_titles.new.output) t Done Device)
    (ap (list_of_codes c.args.form) c.as_slice.ensures)
    (text_broken c.args.form (λ form. list_of_codes form c.as_slice.result.now) (at g.O.Output.written g.O.Output.failures c.new-voice.result c.args.output.now)
    (at g.O.Output.written g.O.Output.failures c.say_titles.new.voice c.say_titles.new.output) c.new-voice.ensures Done c.in-Err.ensures.err)
