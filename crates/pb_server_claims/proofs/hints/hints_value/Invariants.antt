use Rattle.std.proofs.Common.{◌≡◌, map, take}
use Rattle.std.specs.List.{flat_map}
use Rattle.serde_json.specs.View.{view}
use Rattle.pb_outline.specs.Places.{place}
use Rattle.pb_server_claims.specs.Hints.{hints_at}
use Rattle.pb_server_claims.specs.Numbered.{numbered}
use Rattle.pb_server_claims.proofs.hints.hints_value.Given as goal

abbrev pub invariant-loop-one : goal.invariant-loop-one
invariant-loop-one l =
    map view l.list.items
    ≡ flat_map (hints_at l.text (numbered l.program)) (map place (take l.one-index l.one-items))
