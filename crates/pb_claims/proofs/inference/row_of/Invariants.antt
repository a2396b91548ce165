use Rattle.std.proofs.Common.{◌≡◌}
use Rattle.pb_names.specs.View.{block_view}
use Rattle.pb_claims.specs.Inferred.{capped_peaks}
use Rattle.pb_claims.proofs.inference.row_of.Given as goal

abbrev pub invariant-loop-r : goal.invariant-loop-r
invariant-loop-r g l = l.row.items ≡ capped_peaks l.r (block_view l.body.items)
