use Rattle.std.proofs.Common.{◌≡◌, take}
use Rattle.pb_base.specs.Lines.{names_view, pairs_text}
use Rattle.pb_draw_picture.proofs.captions.pairs_of.Given as goal

-- the pairs so far
abbrev pub invariant-loop-i : goal.invariant-loop-i
invariant-loop-i l = l.text.items ≡ pairs_text (names_view l.names) (take l.i l.bundle)
