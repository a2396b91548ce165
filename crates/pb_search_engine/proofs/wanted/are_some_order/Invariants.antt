use Rattle.std.proofs.Common.{◌++◌, take}
use Rattle.std.specs.List.Sorted.{IsPermutation}
use Rattle.pb_search_engine.proofs.wanted.are_some_order.Given as goal

abbrev pub invariant-loop-i : goal.invariant-loop-i
invariant-loop-i l = IsPermutation l.wanted (take l.i l.prints ++ l.left.items)
