use Rattle.std.proofs.Common.{◌≡◌, map, filter, take}
use Rattle.serde_json.specs.View.{view}
use Rattle.pb_outline.specs.Places.{place}
use Rattle.pb_server_names.specs.Answers.{is_wanted}
use Rattle.pb_server_names.specs.Values.{location_data}
use Rattle.pb_server_names.proofs.places.locations.Given as goal

abbrev pub invariant-loop-other : goal.invariant-loop-other
invariant-loop-other l =
    map view l.list.items
    ≡ map (location_data l.uri l.text) (filter (is_wanted l.with_declaration) (map place (take l.other-index l.found)))
