use Rattle.std.proofs.Common.{◌≡◌, ◌++◌, take}
use Rattle.pb_base.specs.Lines.{names_view}
use Rattle.pb_picks.specs.PickLines.{pick_lines}
use Rattle.pb_picks.proofs.write.put_picks.Given as goal

-- the lines of the picks so far are after the text
abbrev pub invariant-loop-i : goal.invariant-loop-i
invariant-loop-i l = l.text.items ≡ l.initial.text.items ++ pick_lines (names_view l.names).processes (take l.i l.picks)
