use Rattle.std.proofs.Common.{length}
use Rattle.pb_findings.proofs.message.are_files.Given as goal

abbrev pub decreases-loop : goal.decreases-loop
decreases-loop l = length l.input
