use Rattle.std.proofs.Common.{rules}
use Rattle.pb_workers.proofs.running.run_branded.Goals as goal

pub returns-clause-report : goal.returns-clause-report
returns-clause-report g c = search rules fits 100
