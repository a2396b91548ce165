use Rattle.std.proofs.Common.{◌≡◌, ◌++◌, take}
use Rattle.pb_base.specs.Lines.{names_view}
use Rattle.pb_bank.specs.Objects.{amounts_json}
use Rattle.pb_bank.proofs.objects.put_amounts.Given as goal

abbrev pub invariant-loop-i : goal.invariant-loop-i
invariant-loop-i l = l.out.items ≡ l.initial.out.items ++ amounts_json (names_view l.names) (take l.i l.bundle)
