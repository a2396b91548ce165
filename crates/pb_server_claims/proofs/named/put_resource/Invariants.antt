use Rattle.std.proofs.Common.{◌≡◌, ◌++◌, [], cond}
use Rattle.std.specs.Str.{bytes_eq}
use Rattle.pb_server_claims.specs.Below.{each_below}
use Rattle.pb_server_claims.specs.Numbered.{numbered, resource_name}
use Rattle.pb_server_claims.specs.Said.{holders_words}
use Rattle.pb_server_claims.proofs.named.put_resource.Given as goal

abbrev pub invariant-loop-r : goal.invariant-loop-r
invariant-loop-r l =
    let n = numbered l.program in
    l.out.items ≡ l.initial.out.items
    ++ each_below (λ r. cond (bytes_eq (resource_name n r) l.name) (holders_words n r) []) l.r
