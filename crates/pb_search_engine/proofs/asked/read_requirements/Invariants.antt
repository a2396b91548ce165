use Rattle.pb_search_engine.specs.Requirements.{ReadsRequirements}
use Rattle.std.proofs.Common.{length}
use Rattle.pb_search_engine.proofs.asked.read_requirements.Given as goal

abbrev pub invariant-loop-line : goal.invariant-loop-line
invariant-loop-line l = ReadsRequirements l.text l.requirements.items l.rest

abbrev pub decreases-loop-line : goal.decreases-loop-line
decreases-loop-line l = length l.rest
