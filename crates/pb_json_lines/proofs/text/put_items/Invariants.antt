use Rattle.std.proofs.Common.{◌≡◌, ◌++◌, ◌≤◌, drop, map}
use Rattle.pb_json_lines.specs.JsonLines.{items}
use Rattle.pb_json_lines.proofs.text.put_items.Given as goal

abbrev pub invariant-loop-i : goal.invariant-loop-i
invariant-loop-i l =
    ((l.out.items ++ items l.section l.before (map (λ t. t.now) (drop l.i l.lines)))
    ≡ (l.initial.out.items ++ items l.section 0 (map (λ t. t.now) l.lines)))
    × (l.before ≤ l.i)
