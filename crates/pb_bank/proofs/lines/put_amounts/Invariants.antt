use Rattle.std.proofs.Common.{◌≡◌, ◌++◌, take}
use Rattle.pb_base.specs.Lines.{names_view}
use Rattle.pb_bank.specs.Tables.{amounts_text}
use Rattle.pb_bank.proofs.lines.put_amounts.Given as goal

abbrev pub invariant-loop-i : goal.invariant-loop-i
invariant-loop-i l = l.out.items ≡ l.initial.out.items ++ amounts_text (names_view l.names) (take l.i l.bundle)
