use Rattle.std.proofs.Common.{map, take}
use Rattle.pb_findings.specs.Findings.{AreWarned}
use Rattle.pb_warnings.specs.Warnings.{warning}
use Rattle.pb_findings.proofs.warned.warned_of.Given as goal

abbrev pub invariant-loop-given : goal.invariant-loop-given
invariant-loop-given l = AreWarned l.part.file.now l.part.start (map warning (take l.given-index l.found)) l.warned.items
