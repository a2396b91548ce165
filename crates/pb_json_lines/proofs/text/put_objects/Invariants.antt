use Rattle.std.proofs.Common.{◌≡◌, ◌++◌, drop, map, false}
use Rattle.pb_json_lines.specs.JsonLines.{objects}
use Rattle.pb_json_lines.proofs.text.put_objects.Given as goal

abbrev pub invariant-loop-i : goal.invariant-loop-i
invariant-loop-i l =
    (l.out.items ++ objects l.dialect l.is_open (map (λ t. t.now) (drop l.i l.lines)))
    ≡ (l.initial.out.items ++ objects l.dialect false (map (λ t. t.now) l.lines))
