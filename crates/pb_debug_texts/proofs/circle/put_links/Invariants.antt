use Rattle.std.proofs.Common.{◌≡◌, ◌++◌, take}
use Rattle.std.specs.Prelude.{flat_map}
use Rattle.pb_base.specs.Lines.{names_view}
use Rattle.pb_debug_texts.specs.Circles.{link_text}
use Rattle.pb_debug_texts.proofs.circle.put_links.Given as goal

abbrev pub invariant-loop-k : goal.invariant-loop-k
invariant-loop-k l = l.text.items ≡ l.initial.text.items ++ flat_map (link_text (names_view l.names)) (take l.k l.links)
