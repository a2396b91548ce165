use Rattle.std.proofs.Common.{length}
use Rattle.pb_findings.specs.Reports.{AreReported}
use Rattle.pb_findings.proofs.report.look_at_files.Given as goal

abbrev pub invariant-loop-entry : goal.invariant-loop-entry
invariant-loop-entry l = AreReported l.options.warn l.fn.input l.input l.said.items

abbrev pub decreases-loop-entry : goal.decreases-loop-entry
decreases-loop-entry l = length l.input
