use Rattle.std.proofs.Common.{◌≡◌, take}
use Rattle.pb_example_batch.proofs.last_print.Given as goal
use Rattle.pb_example_batch.specs.Results.{last_print}
use Rattle.pb_history.specs.Entries.{events_of}

abbrev pub invariant-loop-i : goal.invariant-loop-i
invariant-loop-i l = l.last ≡ last_print l.job (take l.i (events_of l.trace.entries))
