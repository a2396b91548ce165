use Rattle.pb_accept.specs.Sayings.{NoMemory, TooLong}
use Rattle.pb_voice.proofs.InputLemmas.{answers_read, answers_unread}
use Rattle.pb_page_engine.specs.Schedules.{SaysOfSchedules}
use Rattle.pb_voice.specs.Held.{at}
use Rattle.pb_page_engine.proofs.schedules.schedules_engine.Goals as goal

pub returns-in-Ok : goal.returns-in-Ok
returns-in-Ok g c =
    answers_read TooLong NoMemory g.T.Teller.tells g.T.Teller.breaks (SaysOfSchedules c.args.lending c.args.states) (at g.O.Output.written g.O.Output.failures c.args.teller.now c.args.output.now)
    (at g.O.Output.written g.O.Output.failures c.tell_schedules.new.teller c.tell_schedules.new.output) c.tell_schedules.result (g.I.Input.rest c.args.input.now) (g.I.Input.failures c.args.input.now) (g.I.Input.failures c.read_or_tell.new.input)
    c.in-Ok.bytes.items c.deref.result.now (at g.O.Output.written g.O.Output.failures c.read_or_tell.new.teller c.read_or_tell.new.output)
    c.in-Ok.ensures.read c.deref.ensures.value c.in-Ok.ensures.counted c.in-Ok.ensures.untouched c.tell_schedules.ensures

pub returns-in-Err : goal.returns-in-Err
returns-in-Err g c =
    answers_unread TooLong NoMemory g.T.Teller.tells g.T.Teller.breaks (SaysOfSchedules c.args.lending c.args.states) (at g.O.Output.written g.O.Output.failures c.args.teller.now c.args.output.now)
    (at g.O.Output.written g.O.Output.failures c.read_or_tell.new.teller c.read_or_tell.new.output) c.in-Err.status (g.I.Input.rest c.args.input.now) (g.I.Input.failures c.args.input.now) (g.I.Input.failures c.read_or_tell.new.input) c.in-Err.ensures.told
