use Rattle.std.proofs.Common.{ℕ, map, Some, ◌≡◌}
use Rattle.std.specs.Prelude.{slice_get}
use Rattle.pb_code.specs.Code.{Instr}
use Rattle.pb_object.specs.Formats.{IsSingle}
use Rattle.pb_code.specs.View.{process_view}
use Rattle.pb_code.proofs.ListElements.{EachBelow}
use Rattle.pb_object.proofs.first.fits_first.Given as goal

abbrev pub invariant-loop-p : goal.invariant-loop-p
invariant-loop-p l = EachBelow (map process_view l.code.processes.items) l.p (λ _ process. (place : ℕ) (i : Instr) →
    slice_get process.instrs place ≡ Some i → IsSingle i)
