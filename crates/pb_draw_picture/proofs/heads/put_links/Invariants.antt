use Rattle.std.proofs.Common.{◌≡◌, ◌++◌, take}
use Rattle.std.specs.List.{flat_map}
use Rattle.pb_base.specs.Lines.{names_view}
use Rattle.pb_draw_picture.specs.Heads as spec
use Rattle.pb_draw_picture.proofs.heads.put_links.Given as goal

-- the links so far are in the text
abbrev pub invariant-loop-i : goal.invariant-loop-i
invariant-loop-i l = l.text.items ≡ l.initial.text.items ++ flat_map (spec.link_text (names_view l.names)) (take l.i l.circle)
