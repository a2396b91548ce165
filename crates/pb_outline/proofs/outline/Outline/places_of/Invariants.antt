use Rattle.std.proofs.Common.{◌≡◌, ◌++◌, map, drop}
use Rattle.std.specs.List.{filter}
use Rattle.pb_outline.specs.Places.{is_same_name, place}
use Rattle.pb_outline.proofs.outline.Outline.places_of.Given as goal

abbrev pub invariant-loop-place : goal.invariant-loop-place
invariant-loop-place l =
    map place l.found.items ++ filter (is_same_name (place l.one)) (map place (drop l.place-index l.place-items))
    ≡ filter (is_same_name (place l.one)) (map place l.place-items)
