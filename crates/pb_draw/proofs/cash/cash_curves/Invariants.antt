use Rattle.std.proofs.Common.{◌≡◌, length}
use Rattle.pb_history.specs.Entries.{picks_of}
use Rattle.std.proofs.Common.{ℕ, Some}
use Rattle.std.specs.Prelude.{slice_get}
use Rattle.pb_draw.specs.Cash.{IsCashCurve}
use Rattle.pb_draw.specs.declared.drawing.CashCurve.{CashCurve}
use Rattle.pb_draw.proofs.cash.cash_curves.Given as goal

-- the curves of the resources so far
abbrev pub invariant-loop-r : goal.invariant-loop-r
invariant-loop-r l = record {
  many : length l.curves.items ≡ l.r;
  each : (r : ℕ) (curve : CashCurve) → slice_get l.curves.items r ≡ Some curve → IsCashCurve l.verified.code (picks_of l.trace.entries) r curve;
}
