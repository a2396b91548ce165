use Rattle.std.proofs.Common.{◌≡◌, ◌++◌}
use Rattle.pb_server_claims.specs.Below.{each_below}
use Rattle.pb_server_claims.specs.Numbered.{claim, claim_parts, numbered, resource_name}
use Rattle.pb_server_claims.specs.Said.{claim_words}
use Rattle.pb_server_claims.proofs.said.put_claims.Given as goal

abbrev pub invariant-loop-r : goal.invariant-loop-r
invariant-loop-r l =
    let n = numbered l.program in
    l.out.items ≡ l.initial.out.items
    ++ each_below (λ r. claim_words (claim n l.p r) (resource_name n r) (claim_parts n l.p r)) l.r
