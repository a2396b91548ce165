use Rattle.pb_accept.specs.Sayings.{NoMemory, TooLong}
use Rattle.pb_voice.proofs.InputLemmas.{answers_read, answers_unread}
use Rattle.pb_engines.specs.Records.{SaysOfRecord}
use Rattle.pb_options.specs.Lends.{lending_for}
use Rattle.pb_voice.specs.Held.{at}
use Rattle.pb_engines.proofs.record.record_engine.Goals as goal

pub returns-in-Ok : goal.returns-in-Ok
returns-in-Ok g c =
    answers_read TooLong NoMemory g.T.Teller.tells g.T.Teller.breaks (SaysOfRecord (lending_for c.args.options.lend) c.args.options.run.steps c.args.options.seed) (at g.O.Output.written g.O.Output.failures c.args.teller.now c.args.output.now)
    (at g.O.Output.written g.O.Output.failures c.record_text.new.teller c.record_text.new.output) c.record_text.result (g.I.Input.rest c.args.input.now) (g.I.Input.failures c.args.input.now) (g.I.Input.failures c.read_or_tell.new.input)
    c.in-Ok.bytes.items c.deref.result.now (at g.O.Output.written g.O.Output.failures c.read_or_tell.new.teller c.read_or_tell.new.output)
    c.in-Ok.ensures.read c.deref.ensures.value c.in-Ok.ensures.counted c.in-Ok.ensures.untouched c.record_text.ensures

pub returns-in-Err : goal.returns-in-Err
returns-in-Err g c =
    answers_unread TooLong NoMemory g.T.Teller.tells g.T.Teller.breaks (SaysOfRecord (lending_for c.args.options.lend) c.args.options.run.steps c.args.options.seed) (at g.O.Output.written g.O.Output.failures c.args.teller.now c.args.output.now)
    (at g.O.Output.written g.O.Output.failures c.read_or_tell.new.teller c.read_or_tell.new.output) c.in-Err.status (g.I.Input.rest c.args.input.now) (g.I.Input.failures c.args.input.now) (g.I.Input.failures c.read_or_tell.new.input) c.in-Err.ensures.told
