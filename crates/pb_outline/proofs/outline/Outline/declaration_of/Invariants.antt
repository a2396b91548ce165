use Rattle.std.proofs.Common.{◌≡◌, map, drop}
use Rattle.std.specs.List.{find}
use Rattle.pb_outline.specs.Places.{declares_name, place}
use Rattle.pb_outline.proofs.outline.Outline.declaration_of.Given as goal

abbrev pub invariant-loop-place : goal.invariant-loop-place
invariant-loop-place l =
    find (declares_name (place l.one)) (map place (drop l.place-index l.place-items)) ≡ find (declares_name (place l.one)) (map place l.place-items)
