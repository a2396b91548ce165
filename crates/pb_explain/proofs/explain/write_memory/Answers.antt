use Rattle.pb_voice.specs.Held.{at}
use Rattle.pb_voice.specs.Texts.{memory_in}
use Rattle.pb_command_io.specs.declared.status.Status.TheVariants.{Memory}
use Rattle.pb_voice.proofs.EndLemmas.{text_written}
use Rattle.pb_explain.proofs.explain.write_memory.Goals as goal

pub returns-in-Ok-clause-text : goal.returns-in-Ok-clause-text
returns-in-Ok-clause-text g c =
    text_written c.args.form (λ form. memory_in form) (at g.O.Output.written g.O.Output.failures c.new-voice.result c.args.output.now)
    (at g.O.Output.written g.O.Output.failures c.say_memory.new.voice c.say_memory.new.output) c.new-voice.ensures
    (g.O.Output.written c.finish.new.output) Memory c.finish.result c.in-Ok.ensures.ok (c.finish.ensures.text (λ e. cc))
