use Rattle.std.proofs.Common.{◌≡◌, ◌+◌, drop, map, true}
use Rattle.std.specs.List.{prefix_len}
use Rattle.pb_json_lines.specs.declared.form.Dialect.TheVariants.{Program}
use Rattle.pb_json_lines.specs.JsonLines.{is_part}
use Rattle.pb_json_lines.proofs.text.parts_of.Given as goal

abbrev pub invariant-loop-i : goal.invariant-loop-i
invariant-loop-i l =
    prefix_len (is_part Program true) (map (λ t. t.now) l.lines) ≡ (l.i + prefix_len (is_part Program true) (map (λ t. t.now) (drop l.i l.lines)))
