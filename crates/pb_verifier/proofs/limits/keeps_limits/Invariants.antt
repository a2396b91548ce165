use Rattle.std.proofs.Common.{map}
use Rattle.pb_code.specs.View.{process_view}
use Rattle.pb_verifier.specs.Limits.{IsSmallProcess, HasSmallPushes}
use Rattle.pb_code.proofs.ListElements.{EachBelow}
use Rattle.pb_verifier.proofs.limits.keeps_limits.Given as goal

abbrev pub invariant-loop-process : goal.invariant-loop-process
invariant-loop-process l = record {
  small : EachBelow (map process_view l.code.processes.items) l.process-index (λ _ process. IsSmallProcess process);
  pushes : EachBelow (map process_view l.code.processes.items) l.process-index (λ _ process. HasSmallPushes process);
}
