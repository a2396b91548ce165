use Rattle.std.proofs.Common.{◌≡◌, ◌++◌, take}
use Rattle.pb_base.specs.Lines.{names_view}
use Rattle.pb_bank.specs.Tables.{slots_text}
use Rattle.pb_bank.proofs.lines.put_slots.Given as goal

abbrev pub invariant-loop-slot : goal.invariant-loop-slot
invariant-loop-slot l = l.out.items ≡ l.initial.out.items ++ slots_text (names_view l.names) (take l.slot-index l.slots)
