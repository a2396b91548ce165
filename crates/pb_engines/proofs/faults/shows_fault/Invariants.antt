use Rattle.std.proofs.Common.{◌≡◌, ◌<◌, ℕ}
use Rattle.std.specs.Prelude.{slice_get, Some}
use Rattle.pb_base.specs.declared.event.Event.TheVariants.{Faulted}
use Rattle.pb_base.specs.declared.operators.FaultKind.{FaultKind}
use Rattle.pb_base.specs.declared.pick.Pick.{Pick}
use Rattle.pb_history.specs.Entries.{events_of}
use Rattle.pb_engines.proofs.faults.shows_fault.Given as goal

abbrev pub invariant-loop-i : goal.invariant-loop-i
invariant-loop-i l =
    (k : ℕ) (pick : Pick) (kind : FaultKind) → k < l.i → slice_get (events_of l.trace.entries) k ≡ Some (Faulted pick kind) → ⊥
