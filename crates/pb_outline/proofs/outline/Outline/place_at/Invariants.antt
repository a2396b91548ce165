use Rattle.std.proofs.Common.{◌≡◌, map, drop}
use Rattle.std.specs.List.{find}
use Rattle.pb_outline.specs.Places.{is_at, place}
use Rattle.pb_outline.proofs.outline.Outline.place_at.Given as goal

abbrev pub invariant-loop-place : goal.invariant-loop-place
invariant-loop-place l =
    find (is_at l.offset) (map place (drop l.place-index l.place-items)) ≡ find (is_at l.offset) (map place l.place-items)
