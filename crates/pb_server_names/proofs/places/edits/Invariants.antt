use Rattle.std.proofs.Common.{◌≡◌, map, take}
use Rattle.serde_json.specs.View.{view}
use Rattle.pb_outline.specs.Places.{place}
use Rattle.pb_server_names.specs.Values.{edit_data}
use Rattle.pb_server_names.proofs.places.edits.Given as goal

abbrev pub invariant-loop-one : goal.invariant-loop-one
invariant-loop-one l = map view l.list.items ≡ map (edit_data l.text l.new_name) (map place (take l.one-index l.found))
