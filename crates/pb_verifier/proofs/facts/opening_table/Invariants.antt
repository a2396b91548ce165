use Rattle.std.proofs.Common.{◌≡◌, ℕ, ◌<◌, length, get_or, Some}
use Rattle.std.specs.Prelude.{Contains}
use Rattle.pb_verifier.specs.Given.{instrs_of}
use Rattle.pb_verifier.specs.Spread.{fact_at}
use Rattle.pb_verifier.proofs.facts.opening_table.Given as goal

abbrev pub invariant-loop-entry : goal.invariant-loop-entry
invariant-loop-entry g l = record {
  sized : length l.table.items ≡ length (instrs_of l.code);
  started : (k : ℕ) → k < l.entry-index → fact_at l.table.items (get_or l.entries k 0) ≡ Some l.fn.first;
  only : (p : ℕ) (f : g.row.F.Denot) → fact_at l.table.items p ≡ Some f → Contains l.entries p × (f ≡ l.fn.first);
}
