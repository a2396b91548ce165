use Rattle.std.proofs.Common.{◌≡◌, ◌++◌, take}
use Rattle.std.specs.List.{flat_map}
use Rattle.pb_draw_picture.specs.Svg as spec
use Rattle.pb_draw_picture.proofs.svg.put_waits.Given as goal

-- the shapes so far are in the text
abbrev pub invariant-loop-i : goal.invariant-loop-i
invariant-loop-i l = l.text.items ≡ l.initial.text.items ++ flat_map spec.wait_text (take l.i l.waits)
