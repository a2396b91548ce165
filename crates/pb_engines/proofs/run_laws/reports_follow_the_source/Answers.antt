use Rattle.pb_engines.proofs.ReportLemmas.{reports_follow_the_source}
use Rattle.pb_engines.proofs.run_laws.reports_follow_the_source.Goals as goal

pub returns : goal.returns
returns c = reports_follow_the_source
