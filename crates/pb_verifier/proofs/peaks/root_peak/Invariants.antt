use Rattle.std.proofs.Common.{ℕ, ◌≤◌, get_or}
use Rattle.pb_code.specs.View.{process_view}
use Rattle.pb_verifier.specs.declared.peaks.TheConstants.{OVER}
use Rattle.pb_verifier.specs.Faults.{HasArms, HasForks}
use Rattle.pb_verifier.specs.Places.{arms}
use Rattle.pb_verifier.proofs.PeakTables.{AreLast}
use Rattle.pb_verifier.proofs.peaks.root_peak.Given as goal

abbrev pub invariant-loop-done : goal.invariant-loop-done
invariant-loop-done l = record {
  small : (b : ℕ) → get_or l.peaks b 0 ≤ OVER;
  last : (lie : HasArms (process_view l.code)) (fork : HasForks (process_view l.code)) (some : 1 ≤ arms (process_view
      l.code)) → AreLast (process_view l.code) lie fork some l.table l.done l.peaks;
}
