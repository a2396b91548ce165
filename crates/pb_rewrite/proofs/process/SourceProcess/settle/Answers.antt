use Rattle.std.proofs.Common.{rules}
use Rattle.pb_rewrite.proofs.process.SourceProcess.settle.Goals as goal

pub returns-in-Returns : goal.returns-in-Returns
returns-in-Returns g c = search rules fits 100
