use Rattle.std.proofs.Common.{◌≡◌, ◌≤◌, ◌*◌, get_or}
use Rattle.pb_verifier.specs.declared.peaks.TheConstants.{OVER}
use Rattle.pb_verifier.specs.Faults.{sum_of_arms}
use Rattle.pb_verifier.proofs.peaks.sum_of_peaks.Given as goal

abbrev pub invariant-loop-k : goal.invariant-loop-k
invariant-loop-k l = record {
  sum : l.sum ≡ sum_of_arms (λ b. get_or l.peaks b 0) l.first l.k;
  few : l.sum ≤ OVER * l.k;
}
