use Rattle.std.proofs.Common.{ℕ, ◌<◌}
use Rattle.pb_base.specs.Banker.{cell}
use Rattle.pb_code.specs.View.{process_view}
use Rattle.pb_verifier.specs.Faults.{PeakFits}
use Rattle.pb_verifier.proofs.peaks.peaks_fit.Given as goal

abbrev pub invariant-loop-r : goal.invariant-loop-r
invariant-loop-r l = (s : ℕ) → s < l.r → PeakFits (process_view l.code) s (cell l.claims l.process s)
