use Rattle.std.proofs.Common.{◌≡◌, ◌++◌, [], cond, map}
use Rattle.std.specs.Str.{bytes_eq}
use Rattle.serde_json.specs.View.{view}
use Rattle.pb_outline.specs.Places.{place}
use Rattle.pb_server_claims.specs.Below.{each_below}
use Rattle.pb_server_claims.specs.Hints.{hints_of}
use Rattle.pb_server_claims.specs.Numbered.{numbered, process_name}
use Rattle.pb_server_claims.proofs.hints.add_named.Given as goal

abbrev pub invariant-loop-p : goal.invariant-loop-p
invariant-loop-p l =
    let n = numbered l.program in
    map view l.out.items ≡ map view l.initial.out.items
    ++ each_below (λ p. cond (bytes_eq (process_name n p) (place l.one).text) (hints_of l.text n (place l.one) p) []) l.p
