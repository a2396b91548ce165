use Rattle.std.proofs.Common.{◌≡◌, map, drop}
use Rattle.std.specs.List.{list_any}
use Rattle.pb_outline.specs.Places.{place}
use Rattle.pb_outline.specs.Scopes.{takes}
use Rattle.pb_outline.proofs.outline.Outline.is_taken.Given as goal

abbrev pub invariant-loop-place : goal.invariant-loop-place
invariant-loop-place l =
    list_any (takes (place l.one) l.name) (map place (drop l.place-index l.place-items))
    ≡ list_any (takes (place l.one) l.name) (map place l.place-items)
