use Rattle.std.proofs.Common.{ap, ap₂, Some}
use Rattle.pb_rewrite.proofs.Processes.{process_of}
use Rattle.pb_rewrite.proofs.Views.{view-Fresh}
use Rattle.pb_rewrite.proofs.process.SourceProcess.new.Goals as goal

pub returns : goal.returns
returns g c = ap₂ process_of c.in_ok-vars.ensures (ap Some (view-Fresh c.args.body))
