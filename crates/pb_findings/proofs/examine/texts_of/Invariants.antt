use Rattle.std.proofs.Common.{length}
use Rattle.pb_findings.proofs.ReportLemmas.{IsOnFile}
use Rattle.pb_findings.proofs.examine.texts_of.Given as goal

abbrev pub invariant-loop-said : goal.invariant-loop-said
invariant-loop-said l = IsOnFile l.options.warn l.file l.count l.rest l.said.items

abbrev pub decreases-loop-said : goal.decreases-loop-said
decreases-loop-said l = length l.rest
