use Rattle.std.proofs.Common.{◌≡◌, ◌++◌, drop}
use Rattle.pb_json_lines.specs.Lists.{inside}
use Rattle.pb_json_lines.specs.declared.list.Mode.TheVariants.{Begin}
use Rattle.pb_json_lines.proofs.list.put_inside.Given as goal

abbrev pub invariant-loop-byte : goal.invariant-loop-byte
invariant-loop-byte l =
    (l.out.items ++ inside l.shape l.mode (drop l.byte-index l.word)) ≡ (l.initial.out.items ++ inside l.shape Begin l.word)
