use Rattle.std.proofs.Common.{◌≡◌, ◌++◌}
use Rattle.pb_server_claims.specs.Below.{each_below}
use Rattle.pb_server_claims.specs.Numbered.{claim, numbered, process_name}
use Rattle.pb_server_claims.specs.Said.{holder_words}
use Rattle.pb_server_claims.proofs.said.put_holders.Given as goal

abbrev pub invariant-loop-p : goal.invariant-loop-p
invariant-loop-p l =
    let n = numbered l.program in
    l.out.items ≡ l.initial.out.items ++ each_below (λ p. holder_words (process_name n p) (claim n p l.r)) l.p
