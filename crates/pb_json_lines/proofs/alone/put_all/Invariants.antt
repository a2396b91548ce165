use Rattle.std.proofs.Common.{◌≡◌, ◌++◌, drop, map}
use Rattle.pb_json_lines.specs.Live.{lines_alone}
use Rattle.pb_json_lines.proofs.alone.put_all.Given as goal

abbrev pub invariant-loop-i : goal.invariant-loop-i
invariant-loop-i l =
    (l.out.items ++ lines_alone l.dialect (map (λ t. t.now) (drop l.i l.lines.items)))
    ≡ (l.initial.out.items ++ lines_alone l.dialect (map (λ t. t.now) l.lines.items))
