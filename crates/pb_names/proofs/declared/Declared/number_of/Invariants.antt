use Rattle.std.proofs.Common.{◌-◌, length}
use Rattle.pb_names.specs.Search.{names_in}
use Rattle.pb_names.proofs.NameIndexes.{IsReached}
use Rattle.pb_names.proofs.declared.Declared.number_of.Given as goal

abbrev pub invariant-loop-i : goal.invariant-loop-i
invariant-loop-i g l = IsReached (names_in l.self) l.greatest l.name l.i

abbrev pub decreases-loop-i : goal.decreases-loop-i
decreases-loop-i g l = length (names_in l.self) - l.i
