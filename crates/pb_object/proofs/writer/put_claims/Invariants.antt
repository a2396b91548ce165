use Rattle.std.proofs.Common.{◌≡◌, ◌++◌, ◌∷◌, [], map, take, codes, slice_index_or}
use Rattle.std.specs.Fmt.{decimal}
use Rattle.std.specs.List.{join_with_byte}
use Rattle.pb_object.proofs.writer.put_claims.Given as goal

abbrev pub invariant-loop-r : goal.invariant-loop-r
invariant-loop-r l =
    l.out.items ≡ l.fn.out.items ++ join_with_byte 32 (codes "claims" ∷ map decimal (take l.r (slice_index_or l.claims l.p [])))
