use Rattle.std.proofs.Common.{ap}
use Rattle.pb_accept.specs.ToldEvents.{shown}
use Rattle.pb_accept.specs.View.{said_view}
use Rattle.pb_accept.proofs.EventLemmas.{last_is_told, stops_before}
use Rattle.pb_code.specs.Whole.{Code}
use Rattle.pb_engines.specs.Runs.{SaysOfCodeRun}
use Rattle.pb_engines.proofs.ReportLemmas.{says_of_report}
use Rattle.pb_history.specs.Entries.{events_of}
use Rattle.pb_voice.specs.Held.{at}
use Rattle.pb_engines.proofs.report.tell_report.Goals as goal

pub returns-in-Ok : goal.returns-in-Ok
returns-in-Ok g c =
    last_is_told g.T.Teller.tells g.T.Teller.breaks (at g.O.Output.written g.O.Output.failures c.args.teller.now c.args.output.now)
    (at g.O.Output.written g.O.Output.failures c.tell_last.new.teller c.tell_last.new.output) (SaysOfCodeRun c.args.verified.now.code c.args.steps)
    (shown _ (events_of c.args.report.now.trace.entries)) (said_view c.last_of-status.result.0) c.last_of-status.result.1
    (says_of_report c.args.verified.now _ c.args.steps c.args.report.now c.code.ensures.verified c.requires
    (ap (λ (code : Code). code.names) c.code.ensures.code) (said_view c.last_of-status.result.0) c.last_of-status.result.1 c.last_of-status.ensures.said)
    (at g.O.Output.written g.O.Output.failures c.tell_events.new.teller c.tell_events.new.output) c.tell_last.result c.in-Ok.ensures.told c.tell_last.ensures

pub returns-in-Err : goal.returns-in-Err
returns-in-Err g c =
    stops_before g.T.Teller.tells g.T.Teller.breaks (at g.O.Output.written g.O.Output.failures c.args.teller.now c.args.output.now)
    (at g.O.Output.written g.O.Output.failures c.tell_events.new.teller c.tell_events.new.output) (SaysOfCodeRun c.args.verified.now.code c.args.steps)
    (shown _ (events_of c.args.report.now.trace.entries)) (said_view c.last_of-status.result.0) c.last_of-status.result.1
    (says_of_report c.args.verified.now _ c.args.steps c.args.report.now c.code.ensures.verified c.requires
    (ap (λ (code : Code). code.names) c.code.ensures.code) (said_view c.last_of-status.result.0) c.last_of-status.result.1 c.last_of-status.ensures.said)
    c.in-Err.ensures.broken
