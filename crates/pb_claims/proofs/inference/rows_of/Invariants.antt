use Rattle.std.proofs.Common.{◌≡◌, map, take}
use Rattle.pb_names.specs.View.{block_view}
use Rattle.pb_claims.specs.Inferred.{capped_peaks}
use Rattle.pb_claims.proofs.inference.rows_of.Given as goal

abbrev pub invariant-loop-process : goal.invariant-loop-process
invariant-loop-process g l =
    map (λ row. row.items) l.rows.items
    ≡ map (λ process. capped_peaks l.resources (block_view process.body.items)) (take l.process-index l.process-items)
