use Rattle.std.proofs.Common.{◌≡◌, ◌++◌, map}
use Rattle.serde_json.specs.View.{view}
use Rattle.pb_outline.specs.Places.{place}
use Rattle.pb_server_claims.specs.Below.{each_below}
use Rattle.pb_server_claims.specs.Hints.{hint_if}
use Rattle.pb_server_claims.specs.Numbered.{claim, numbered, resource_name}
use Rattle.pb_server_claims.proofs.hints.add_hints.Given as goal

abbrev pub invariant-loop-r : goal.invariant-loop-r
invariant-loop-r l =
    let n = numbered l.program in
    map view l.out.items ≡ map view l.initial.out.items
    ++ each_below (λ r. hint_if l.text (place l.one) (claim n l.p r) (resource_name n r)) l.r
