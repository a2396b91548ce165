use Rattle.std.proofs.Common.{◌≡◌, ◌≤◌, take}
use Rattle.std.specs.List.{count_by}
use Rattle.pb_findings.specs.Reports as spec
use Rattle.pb_findings.proofs.report.count_refused.Given as goal

abbrev pub invariant-loop-report : goal.invariant-loop-report
invariant-loop-report l = record {
  sums : l.count ≡ count_by spec.has_refused (take l.report-index l.said);
  few : l.count ≤ l.report-index;
}
