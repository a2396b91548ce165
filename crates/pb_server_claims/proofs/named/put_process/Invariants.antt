use Rattle.std.proofs.Common.{◌≡◌, ◌++◌, [], cond}
use Rattle.std.specs.Str.{bytes_eq}
use Rattle.pb_server_claims.specs.Below.{each_below}
use Rattle.pb_server_claims.specs.Numbered.{numbered, process_name}
use Rattle.pb_server_claims.specs.Said.{claims_words}
use Rattle.pb_server_claims.proofs.named.put_process.Given as goal

abbrev pub invariant-loop-p : goal.invariant-loop-p
invariant-loop-p l =
    let n = numbered l.program in
    l.out.items ≡ l.initial.out.items
    ++ each_below (λ p. cond (bytes_eq (process_name n p) l.name) (claims_words n p) []) l.p
