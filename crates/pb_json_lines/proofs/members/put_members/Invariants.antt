use Rattle.std.proofs.Common.{◌≡◌, ◌++◌, drop}
use Rattle.pb_json_lines.specs.Patterns.{members}
use Rattle.pb_json_lines.proofs.members.put_members.Given as goal

abbrev pub invariant-loop-i : goal.invariant-loop-i
invariant-loop-i l = (l.out.items ++ members (drop l.i l.pattern) l.rest) ≡ (l.initial.out.items ++ members l.pattern l.line)
