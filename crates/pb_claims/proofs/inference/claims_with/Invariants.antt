use Rattle.std.proofs.Common.{◌≡◌, map, take}
use Rattle.pb_claims.proofs.inference.claims_with.Given as goal

abbrev pub invariant-loop-row : goal.invariant-loop-row
invariant-loop-row l = map (λ slice. slice.now) l.slices.items ≡ map (λ row. row.items) (take l.row-index l.row-items)
