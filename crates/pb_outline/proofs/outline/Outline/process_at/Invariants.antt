use Rattle.std.proofs.Common.{◌≡◌, ◌≤◌, ◌+◌, map, drop}
use Rattle.std.specs.List.{count_by}
use Rattle.pb_outline.specs.Places.{place}
use Rattle.pb_outline.specs.Scopes.{begins_process}
use Rattle.pb_outline.proofs.outline.Outline.process_at.Given as goal

abbrev pub invariant-loop-place : goal.invariant-loop-place
invariant-loop-place l = record {
  value : l.count + count_by (begins_process l.offset) (map place (drop l.place-index l.place-items))
      ≡ count_by (begins_process l.offset) (map place l.place-items);
  small : l.count ≤ l.place-index;
}
