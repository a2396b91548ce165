use Rattle.std.proofs.Common.{◌≡◌}
use Rattle.pb_example_batch.proofs.results.Given as goal
use Rattle.pb_example_batch.specs.Results.{last_prints}
use Rattle.pb_history.specs.Entries.{events_of}

abbrev pub invariant-loop-job : goal.invariant-loop-job
invariant-loop-job l = l.results.items ≡ last_prints l.job (events_of l.trace.entries)
