use Rattle.std.proofs.Common.{◌≡◌, ◌++◌, map, take}
use Rattle.serde_json.specs.View.{view}
use Rattle.pb_outline.specs.Places.{place}
use Rattle.pb_server_names.specs.Completions.{name_item}
use Rattle.pb_server_names.proofs.completions.add_names.Given as goal

abbrev pub invariant-loop-one : goal.invariant-loop-one
invariant-loop-one l =
    map view l.out.items ≡ map view l.initial.out.items ++ map name_item (map place (take l.one-index l.found))
