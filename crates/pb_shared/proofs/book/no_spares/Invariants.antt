use Rattle.std.proofs.Common.{◌≡◌, replicate, None}
use Rattle.pb_shared.proofs.book.no_spares.Given as goal

abbrev pub invariant-loop-process : goal.invariant-loop-process
invariant-loop-process l = l.spares.items ≡ replicate l.process None
