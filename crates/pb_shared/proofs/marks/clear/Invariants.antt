use Rattle.std.proofs.Common.{◌≡◌, Bool, false, map, take, drop, ◌++◌}
use Rattle.pb_shared.proofs.marks.clear.Given as goal

abbrev pub invariant-loop-place : goal.invariant-loop-place
invariant-loop-place l = l.marks.items ≡ map (λ (b : Bool). false) (take l.place l.fn.marks.items) ++ drop l.place l.fn.marks.items
