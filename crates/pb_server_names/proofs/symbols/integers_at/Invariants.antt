use Rattle.std.proofs.Common.{◌≡◌, map, filter, take}
use Rattle.serde_json.specs.View.{view}
use Rattle.pb_outline.specs.Places.{place}
use Rattle.pb_server_names.specs.Symbols.{integer_data, is_integer_of}
use Rattle.pb_server_names.proofs.symbols.integers_at.Given as goal

abbrev pub invariant-loop-one : goal.invariant-loop-one
invariant-loop-one l =
    map view l.list.items
    ≡ map (integer_data l.text) (filter (is_integer_of l.process) (map place (take l.one-index l.one-items)))
