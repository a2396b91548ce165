use Rattle.std.proofs.Common.{subst}
use Rattle.pb_accept.specs.Claims.{SaysOfAny}
use Rattle.pb_accept.specs.Sayings.{NoMemory, TooLong}
use Rattle.pb_voice.proofs.InputLemmas.{answers_read, answers_unread}
use Rattle.pb_draw_engine.specs.Draws.{SaysOfDraw, size_of}
use Rattle.pb_options.specs.Lends.{lending_for}
use Rattle.pb_base.specs.declared.lending.Lending.{Lending}
use Rattle.pb_draw_picture.specs.declared.picture.Size.{Size}
use Rattle.pb_voice.specs.Held.{at}
use Rattle.pb_voice.specs.Tellings.{Speaks}
use Rattle.pb_draw_engine.proofs.draw.draw_engine.Goals as goal

pub returns-in-Ok : goal.returns-in-Ok
returns-in-Ok g c =
    let after = at g.O.Output.written g.O.Output.failures c.draw_bytes.new.teller c.draw_bytes.new.output in
    let told = subst (λ (l : Lending). Speaks g.T.Teller.tells g.T.Teller.breaks (SaysOfAny (SaysOfDraw l (size_of c.args.options)) c.deref.result.now)
    (at g.O.Output.written g.O.Output.failures c.read_or_tell.new.teller c.read_or_tell.new.output) after c.draw_bytes.result) c.lending.ensures
    (subst (λ (s : Size). Speaks g.T.Teller.tells g.T.Teller.breaks (SaysOfAny (SaysOfDraw c.lending.result s) c.deref.result.now)
    (at g.O.Output.written g.O.Output.failures c.read_or_tell.new.teller c.read_or_tell.new.output) after c.draw_bytes.result) c.size_of.ensures
    c.draw_bytes.ensures) in
    answers_read TooLong NoMemory g.T.Teller.tells g.T.Teller.breaks (SaysOfDraw (lending_for c.args.options.lend) (size_of c.args.options)) (at g.O.Output.written g.O.Output.failures c.args.teller.now c.args.output.now)
    (at g.O.Output.written g.O.Output.failures c.draw_bytes.new.teller c.draw_bytes.new.output) c.draw_bytes.result (g.I.Input.rest c.args.input.now) (g.I.Input.failures c.args.input.now) (g.I.Input.failures c.read_or_tell.new.input)
    c.in-Ok.bytes.items c.deref.result.now (at g.O.Output.written g.O.Output.failures c.read_or_tell.new.teller c.read_or_tell.new.output)
    c.in-Ok.ensures.read c.deref.ensures.value c.in-Ok.ensures.counted c.in-Ok.ensures.untouched told

pub returns-in-Err : goal.returns-in-Err
returns-in-Err g c =
    answers_unread TooLong NoMemory g.T.Teller.tells g.T.Teller.breaks (SaysOfDraw (lending_for c.args.options.lend) (size_of c.args.options)) (at g.O.Output.written g.O.Output.failures c.args.teller.now c.args.output.now)
    (at g.O.Output.written g.O.Output.failures c.read_or_tell.new.teller c.read_or_tell.new.output) c.in-Err.status (g.I.Input.rest c.args.input.now) (g.I.Input.failures c.args.input.now) (g.I.Input.failures c.read_or_tell.new.input) c.in-Err.ensures.told
