use Rattle.std.proofs.Common.{ap}
use Rattle.pb_page_engine.specs.Schedules.{SaysOfSchedules}
use Rattle.pb_accept.specs.Claims.{SaysOfAny}
use Rattle.pb_voice.specs.Inputs.{nothing}
use Rattle.pb_accept.specs.Objects.{text_of}
use Rattle.pb_voice.specs.Held.{Held, at}
use Rattle.pb_voice.proofs.EndLemmas.{faults_as_told, written_in}
use Rattle.pb_page_engine.proofs.written.write_schedules.Goals as goal

pub returns-clause-text : goal.returns-clause-text
returns-clause-text g c =
    written_in text_of c.args.form (at g.O.Output.written g.O.Output.failures c.new-voice.result c.args.output.now)
    (at g.O.Output.written g.O.Output.failures c.schedules_engine-given.new.teller c.schedules_engine-given.new.output)
    c.schedules_engine-given.result c.finish.result (g.O.Output.written c.finish.new.output) (g.O.Output.failures c.finish.new.output)
    c.new-voice.ensures c.finish.ensures.text c.finish.ensures.faults
    (λ device. let kept = c.finish.ensures.device device in
    (ap g.O.Output.written kept.0, ap g.O.Output.failures kept.0, kept.1))
    (SaysOfAny (SaysOfSchedules c.args.lending c.args.states)) (λ bytes. nothing)
    (g.I.Input.rest c.args.input.now) (g.I.Input.failures c.args.input.now) (g.I.Input.failures c.schedules_engine-given.new.input)
    c.schedules_engine-given.ensures

pub returns-clause-faults : goal.returns-clause-faults
returns-clause-faults g c =
    faults_as_told text_of (at g.O.Output.written g.O.Output.failures c.new-voice.result c.args.output.now)
    (at g.O.Output.written g.O.Output.failures c.schedules_engine-given.new.teller c.schedules_engine-given.new.output)
    c.schedules_engine-given.result c.finish.result (g.O.Output.written c.finish.new.output) (g.O.Output.failures c.finish.new.output)
    (ap (λ (h : Held). h.waits) c.new-voice.ensures) c.finish.ensures.text c.finish.ensures.faults
    (λ device. let kept = c.finish.ensures.device device in
    (ap g.O.Output.written kept.0, ap g.O.Output.failures kept.0, kept.1))
    (SaysOfAny (SaysOfSchedules c.args.lending c.args.states)) (λ bytes. nothing)
    (g.I.Input.rest c.args.input.now) (g.I.Input.failures c.args.input.now) (g.I.Input.failures c.schedules_engine-given.new.input)
    c.schedules_engine-given.ensures
