use Rattle.std.proofs.Common.{◌≡◌, map, take}
use Rattle.pb_base.proofs.claims.Claims.copy.Given as goal

abbrev pub invariant-loop-row : goal.invariant-loop-row
invariant-loop-row l = map (λ v. v.items) l.rows.items ≡ map (λ v. v.items) (take l.row-index l.row-items)
