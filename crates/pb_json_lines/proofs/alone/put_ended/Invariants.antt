use Rattle.std.proofs.Common.{◌≡◌, ◌++◌, ◌-◌, ◌≤◌, length, take}
use Rattle.pb_json_lines.specs.Live.{EndsLine, told_alone}
use Rattle.pb_json_lines.proofs.alone.put_ended.Given as goal

abbrev pub invariant-loop-at : goal.invariant-loop-at
invariant-loop-at l =
    (l.count ≤ length l.text) × EndsLine (take l.count l.text)
    × (l.out.items ≡ l.initial.out.items ++ told_alone l.dialect (take l.count l.text))

abbrev pub decreases-loop-at : goal.decreases-loop-at
decreases-loop-at l = length l.text - l.count
