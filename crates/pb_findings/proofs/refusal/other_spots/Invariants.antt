use Rattle.std.proofs.Common.{All}
use Rattle.pb_findings.specs.Findings.{IsSpotOf}
use Rattle.pb_findings.proofs.refusal.other_spots.Given as goal

abbrev pub invariant-loop-other : goal.invariant-loop-other
invariant-loop-other l = All (IsSpotOf l.part.file.now) l.spots.items
