use Rattle.std.proofs.Common.{◌≡◌, ◌++◌, map, drop}
use Rattle.std.specs.List.{filter}
use Rattle.pb_outline.specs.Places.{place}
use Rattle.pb_outline.specs.Scopes.{is_in_scope}
use Rattle.pb_outline.proofs.outline.Outline.names_at.Given as goal

abbrev pub invariant-loop-place : goal.invariant-loop-place
invariant-loop-place l =
    map place l.found.items ++ filter (is_in_scope l.process) (map place (drop l.place-index l.place-items))
    ≡ filter (is_in_scope l.process) (map place l.place-items)
