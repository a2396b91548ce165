-- The one pass over a process finds the most that a free run holds.
use Rattle.std.proofs.Common.{◌≡◌, ℕ, [], ◌++◌, subst, ap, arith, append-nil}
use Rattle.pb_names.specs.Program.{Process}
use Rattle.pb_names.specs.Source.{items_of, Doing}
use Rattle.pb_names.specs.Claims.{FreeRun, start_of, IsClaim, peak}
use Rattle.pb_claims.proofs.FreeRunPeaks.{list_peak, held_le, run_falls, block_list_peak}
use Rattle.pb_claims.proofs.GreatestRuns.{reach}

pub is_claim : (process : Process) (r : ℕ) → IsClaim process r (peak r process.body)
is_claim process r =
    let whole : items_of process.body ++ [] ≡ items_of process.body = append-nil (items_of process.body) in
    let f = reach r process.body [] in
    let top = block_list_peak r process.body [] in
    let same : list_peak r (items_of process.body ++ []) ≡ list_peak r (items_of process.body) =
    ap (list_peak r) whole
    in (
      λ arm run.
          let falls = run_falls r (start_of process) arm run in
          let now = held_le r arm in
          omega (arith, falls, now, top, same),
      (f.arm, subst (λ items. FreeRun (Doing items) f.arm) whole f.run, (let h = f.holds in omega (arith, h))),
    )
