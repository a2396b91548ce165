use Rattle.std.proofs.Common.{ap}
use Rattle.pb_accept.specs.Replays.{SaysOfEvents}
use Rattle.pb_accept.specs.ToldEvents.{shown}
use Rattle.pb_accept.specs.Sayings.{Ended}
use Rattle.pb_accept.proofs.EventLemmas.{last_is_told, stops_before}
use Rattle.pb_accept.proofs.ReplayLemmas.{says_of_events}
use Rattle.pb_code.specs.Whole.{Code}
use Rattle.pb_history.specs.Entries.{events_of}
use Rattle.pb_machine.specs.Views.{machine_view}
use Rattle.pb_voice.specs.Held.{at}
use Rattle.pb_accept.proofs.replay.tell_replay.Goals as goal

pub returns-in-Ok : goal.returns-in-Ok
returns-in-Ok g c lending is =
    last_is_told g.T.Teller.tells g.T.Teller.breaks (at g.O.Output.written g.O.Output.failures c.args.teller.now c.args.output.now)
    (at g.O.Output.written g.O.Output.failures c.tell_last.new.teller c.tell_last.new.output)
    (SaysOfEvents lending c.args.verified.now.code (events_of c.args.trace.now.entries) (machine_view c.args.machine.now))
    (shown _ (events_of c.args.trace.now.entries)) (Ended c.ending_of-ending.result) c.end_status-status.result
    (says_of_events lending c.args.verified.now.code _ (events_of c.args.trace.now.entries) (machine_view c.args.machine.now)
    c.ending_of-ending.result c.end_status-status.result (ap (λ (code : Code). code.names) c.code.ensures.code) (c.ending_of-ending.ensures lending is)
    (c.end_status-status.ensures.status (machine_view c.args.machine.now) c.status_at-faulted.ensures.status))
    (at g.O.Output.written g.O.Output.failures c.tell_events.new.teller c.tell_events.new.output) c.tell_last.result c.in-Ok.ensures.told c.tell_last.ensures

pub returns-in-Err : goal.returns-in-Err
returns-in-Err g c lending is =
    stops_before g.T.Teller.tells g.T.Teller.breaks (at g.O.Output.written g.O.Output.failures c.args.teller.now c.args.output.now)
    (at g.O.Output.written g.O.Output.failures c.tell_events.new.teller c.tell_events.new.output)
    (SaysOfEvents lending c.args.verified.now.code (events_of c.args.trace.now.entries) (machine_view c.args.machine.now))
    (shown _ (events_of c.args.trace.now.entries)) (Ended c.ending_of-ending.result) c.end_status-status.result
    (says_of_events lending c.args.verified.now.code _ (events_of c.args.trace.now.entries) (machine_view c.args.machine.now)
    c.ending_of-ending.result c.end_status-status.result (ap (λ (code : Code). code.names) c.code.ensures.code) (c.ending_of-ending.ensures lending is)
    (c.end_status-status.ensures.status (machine_view c.args.machine.now) c.status_at-faulted.ensures.status))
    c.in-Err.ensures.broken
