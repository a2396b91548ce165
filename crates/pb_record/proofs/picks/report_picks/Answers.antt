use Rattle.std.proofs.Common.{rules}
use Rattle.pb_record.proofs.LongRecords.{report_is_counted}
use Rattle.pb_record.proofs.picks.report_picks.Goals as goal

pub returns-in-Ok-clause-picks : goal.returns-in-Ok-clause-picks
returns-in-Ok-clause-picks g c =
    report_is_counted c.args.verified.now c.requires c.args.options.steps c.in_ok-report.report (λ picks. picks.items) c.in-Ok.picks
    c.args.options.steps_fit c.in_ok-report.ensures.report c.in-Ok.ensures

pub returns-in_err-report-clause-limits : goal.returns-in_err-report-clause-limits
returns-in_err-report-clause-limits g c = search rules fits 100
