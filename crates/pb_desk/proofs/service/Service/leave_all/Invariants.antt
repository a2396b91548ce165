use Rattle.std.proofs.Common.{◌≡◌, ◌++◌, List}
use Rattle.pb_desk.specs.Applies.{Leaves}
use Rattle.pb_desk.specs.declared.told.Told.{Told}
use Rattle.pb_desk.proofs.service.Service.leave_all.Given as goal

abbrev pub invariant-loop-p : goal.invariant-loop-p
invariant-loop-p l =
    (all : List Told) × Leaves l.id l.initial.self l.p all l.self × (l.out.items ≡ l.initial.out.items ++ all)
