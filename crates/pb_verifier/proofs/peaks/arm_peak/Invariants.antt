use Rattle.std.proofs.Common.{ℕ, ◌+◌, ◌≤◌}
use Rattle.pb_code.specs.View.{process_view}
use Rattle.pb_verifier.specs.declared.peaks.TheConstants.{OVER}
use Rattle.pb_verifier.specs.Amounts.{AreCutOff}
use Rattle.pb_verifier.specs.Faults.{HasArms, HasForks}
use Rattle.pb_verifier.specs.Places.{arms}
use Rattle.pb_verifier.proofs.PeakTables.{IsBest}
use Rattle.pb_verifier.proofs.peaks.arm_peak.Given as goal

abbrev pub invariant-loop-place : goal.invariant-loop-place
invariant-loop-place l = record {
  best : (peak : ℕ → ℕ) → AreCutOff (process_view l.code) (l.arm + 1) peak l.peaks
      → (lie : HasArms (process_view l.code)) (fork : HasForks (process_view l.code)) (some : 1 ≤ arms (process_view
      l.code)) → IsBest (process_view l.code) lie fork some l.table peak l.arm l.place l.best;
  small : l.best ≤ OVER;
}
