use Rattle.pb_accept.specs.Sayings.{NoMemory, TooLong}
use Rattle.pb_voice.proofs.InputLemmas.{answers_read, answers_unread}
use Rattle.std.proofs.Common.{subst}
use Rattle.pb_accept.specs.Claims.{SaysOfAny}
use Rattle.pb_accept.specs.Replays.{SaysOfReplay}
use Rattle.pb_base.specs.declared.lending.Lending.{Lending}
use Rattle.pb_options.specs.Lends.{lending_for}
use Rattle.pb_voice.specs.Tellings.{Speaks}
use Rattle.pb_voice.specs.Held.{at}
use Rattle.pb_accept.proofs.replay.replay_engine.Goals as goal

pub returns-in-Ok : goal.returns-in-Ok
returns-in-Ok g c =
    answers_read TooLong NoMemory g.T.Teller.tells g.T.Teller.breaks (SaysOfReplay (lending_for c.args.options.lend)) (at g.O.Output.written g.O.Output.failures c.args.teller.now c.args.output.now)
    (at g.O.Output.written g.O.Output.failures c.replay_text.new.teller c.replay_text.new.output) c.replay_text.result (g.I.Input.rest c.args.input.now) (g.I.Input.failures c.args.input.now) (g.I.Input.failures c.read_or_tell.new.input)
    c.in-Ok.bytes.items c.deref.result.now (at g.O.Output.written g.O.Output.failures c.read_or_tell.new.teller c.read_or_tell.new.output)
    c.in-Ok.ensures.read c.deref.ensures.value c.in-Ok.ensures.counted c.in-Ok.ensures.untouched
    (subst (λ (l : Lending). Speaks g.T.Teller.tells g.T.Teller.breaks (SaysOfAny (SaysOfReplay l) c.deref.result.now)
    (at g.O.Output.written g.O.Output.failures c.read_or_tell.new.teller c.read_or_tell.new.output) (at g.O.Output.written g.O.Output.failures c.replay_text.new.teller c.replay_text.new.output) c.replay_text.result)
    c.lending.ensures c.replay_text.ensures)

pub returns-in-Err : goal.returns-in-Err
returns-in-Err g c =
    answers_unread TooLong NoMemory g.T.Teller.tells g.T.Teller.breaks (SaysOfReplay (lending_for c.args.options.lend)) (at g.O.Output.written g.O.Output.failures c.args.teller.now c.args.output.now)
    (at g.O.Output.written g.O.Output.failures c.read_or_tell.new.teller c.read_or_tell.new.output) c.in-Err.status (g.I.Input.rest c.args.input.now) (g.I.Input.failures c.args.input.now) (g.I.Input.failures c.read_or_tell.new.input) c.in-Err.ensures.told
