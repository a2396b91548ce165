use Rattle.std.proofs.Common.{length}
use Rattle.pb_accept.specs.Checks.{AreTold}
use Rattle.pb_voice.specs.Held.{at}
use Rattle.pb_accept.proofs.check.check_parts.Given as goal

abbrev pub invariant-loop-is_refusal : goal.invariant-loop-is_refusal
invariant-loop-is_refusal g l = AreTold g.T.Teller.tells l.options.warn l.bytes l.rest (at g.O.Output.written g.O.Output.failures l.initial.teller l.initial.output) l.refused (at g.O.Output.written g.O.Output.failures l.teller l.output)

abbrev pub decreases-loop-is_refusal : goal.decreases-loop-is_refusal
decreases-loop-is_refusal g l = length l.rest
