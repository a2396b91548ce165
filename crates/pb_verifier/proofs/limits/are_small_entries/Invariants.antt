use Rattle.std.proofs.Common.{◌<◌, ℕ, get_or}
use Rattle.pb_verifier.proofs.limits.are_small_entries.Given as goal

abbrev pub invariant-loop-entry : goal.invariant-loop-entry
invariant-loop-entry l = (k : ℕ) → k < l.entry-index → get_or l.entries k 0 < 40000
