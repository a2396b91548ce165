use Rattle.std.proofs.Common.{◌≡◌, take}
use Rattle.pb_base.specs.Lines.{names_view}
use Rattle.pb_draw_picture.specs.Texts as spec
use Rattle.pb_draw_picture.proofs.captions.listed.Given as goal

-- the processes so far
abbrev pub invariant-loop-i : goal.invariant-loop-i
invariant-loop-i l = l.text.items ≡ spec.listed_text (names_view l.names) (take l.i l.rest)
