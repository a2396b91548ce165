use Rattle.std.proofs.Common.{◌≡◌, ◌++◌, take}
use Rattle.std.specs.List.{flat_map}
use Rattle.pb_findings.specs.Sarif.{notice_sarif}
use Rattle.pb_findings.proofs.sarif.put_notices.Given as goal

abbrev pub invariant-loop-report : goal.invariant-loop-report
invariant-loop-report l = l.out.items ≡ l.fn.out.items ++ flat_map notice_sarif (take l.report-index l.said)
