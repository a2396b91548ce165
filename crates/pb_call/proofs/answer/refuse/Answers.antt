use Rattle.std.proofs.Common.{subst}
use Rattle.pb_call.specs.Calls.{fault_status, words_fault_text}
use Rattle.pb_command_io.specs.Answers.{Says}
use Rattle.pb_command_io.specs.declared.status.Status.{Status}
use Rattle.pb_voice.specs.Held.{at}
use Rattle.pb_voice.proofs.EndLemmas.{text_broken, broken_counted, text_counted, text_written}
use Rattle.pb_call.proofs.answer.refuse.Goals as goal

pub returns-in-Ok-clause-text : goal.returns-in-Ok-clause-text
returns-in-Ok-clause-text g c =
    text_written c.args.form (λ form. words_fault_text form c.args.fault.now) (at g.O.Output.written g.O.Output.failures c.new-voice.result c.args.output.now)
    (at g.O.Output.written g.O.Output.failures c.say_fault.new.voice c.say_fault.new.output) c.new-voice.ensures
    (g.O.Output.written c.finish.new.output) (fault_status c.args.fault.now) c.finish.result c.in-Ok.ensures.ok
    (subst (λ (s : Status). Says (g.O.Output.written c.say_fault.new.output) (g.O.Output.written c.finish.new.output) c.say_fault.new.voice.waits s c.finish.result)
    c.status_of.ensures.said (c.finish.ensures.text c.status_of.ensures.no_device))

pub returns-in-Ok-clause-faults : goal.returns-in-Ok-clause-faults
returns-in-Ok-clause-faults g c =
    text_counted c.args.form (λ form. words_fault_text form c.args.fault.now) (at g.O.Output.written g.O.Output.failures c.new-voice.result c.args.output.now)
    (at g.O.Output.written g.O.Output.failures c.say_fault.new.voice c.say_fault.new.output) c.new-voice.ensures
    (g.O.Output.failures c.finish.new.output) c.finish.result c.in-Ok.ensures.ok (c.finish.ensures.faults c.status_of.ensures.no_device)

pub returns-in-Err-clause-text : goal.returns-in-Err-clause-text
returns-in-Err-clause-text g c =
    text_broken c.args.form (λ form. words_fault_text form c.args.fault.now) (at g.O.Output.written g.O.Output.failures c.new-voice.result c.args.output.now)
    (at g.O.Output.written g.O.Output.failures c.say_fault.new.voice c.say_fault.new.output) c.new-voice.ensures _ c.in-Err.ensures.err

pub returns-in-Err-clause-faults : goal.returns-in-Err-clause-faults
returns-in-Err-clause-faults g c =
    broken_counted c.args.form (λ form. words_fault_text form c.args.fault.now) (at g.O.Output.written g.O.Output.failures c.new-voice.result c.args.output.now)
    (at g.O.Output.written g.O.Output.failures c.say_fault.new.voice c.say_fault.new.output) c.new-voice.ensures c.in-Err.ensures.err
