use Rattle.std.proofs.Common.{◌≤◌, length, refl, arith}
use Rattle.pb_base.specs.Lines.{names_view}
use Rattle.pb_command_io.proofs.PageLemmas.{OnErr-of}
use Rattle.pb_history.specs.Entries.{events_of}
use Rattle.pb_accept.specs.Sayings.{Shows}
use Rattle.pb_accept.proofs.EventLemmas.{all_are_told, one_broken, one_told}
use Rattle.pb_voice.specs.Held.{at}
use Rattle.pb_accept.proofs.events.tell_events.Goals as goal

pub loop-i-init : goal.loop-i-init
loop-i-init g c = refl

pub loop-i-preserved : goal.loop-i-preserved
loop-i-preserved g c =
    one_told g.T.Teller.tells g.T.Teller.breaks (Shows (names_view c.args.names.now)) (events_of c.args.trace.now.entries) c.loop-i.i
    c.event-event.result c.event-event.ensures (at g.O.Output.written g.O.Output.failures c.args.teller.now c.args.output.now)
    (at g.O.Output.written g.O.Output.failures c.loop-i.teller c.loop-i.output)
    (at g.O.Output.written g.O.Output.failures c.tell.new.self c.tell.new.output) c.loop-i.invariant c.in_ok-tell.ensures.told

pub returns-in_err-tell-clause-broken : goal.returns-in_err-tell-clause-broken
returns-in_err-tell-clause-broken g c =
    OnErr-of c.from_residual.result
    (one_broken g.T.Teller.tells g.T.Teller.breaks (Shows (names_view c.args.names.now)) (events_of c.args.trace.now.entries) c.loop-i.i
    c.event-event.result c.event-event.ensures (at g.O.Output.written g.O.Output.failures c.args.teller.now c.args.output.now)
    (at g.O.Output.written g.O.Output.failures c.loop-i.teller c.loop-i.output)
    (at g.O.Output.written g.O.Output.failures c.tell.new.self c.tell.new.output) c.loop-i.invariant c.in_err-tell.ensures.broken)

pub returns-clause-told : goal.returns-clause-told
returns-clause-told g c =
    let len = c.events_len-i-end.ensures in
    let test = c.loop-i-test.false in
    let all : length (events_of c.args.trace.now.entries) ≤ c.loop-i.i = omega (arith, len, test) in
    all_are_told g.T.Teller.tells (Shows (names_view c.args.names.now)) (events_of c.args.trace.now.entries) c.loop-i.i
    (at g.O.Output.written g.O.Output.failures c.args.teller.now c.args.output.now)
    (at g.O.Output.written g.O.Output.failures c.loop-i.teller c.loop-i.output) all c.loop-i.invariant
