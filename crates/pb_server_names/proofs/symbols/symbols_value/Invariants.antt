use Rattle.std.proofs.Common.{◌≡◌, map, take}
use Rattle.std.specs.List.{flat_map}
use Rattle.serde_json.specs.View.{view}
use Rattle.pb_lexer.specs.Tokens.{tokens}
use Rattle.pb_outline.specs.Places.{place, places}
use Rattle.pb_server_names.specs.Symbols.{symbols_of}
use Rattle.pb_server_names.proofs.symbols.symbols_value.Given as goal

abbrev pub invariant-loop-one : goal.invariant-loop-one
invariant-loop-one l =
    map view l.list.items
    ≡ flat_map (symbols_of l.text (tokens l.given) (places l.outline)) (map place (take l.one-index l.one-items))
