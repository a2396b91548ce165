use Rattle.std.proofs.Common.{◌≡◌, ◌++◌, drop}
use Rattle.pb_message_excerpts.specs.Characters.{below_bytes}
use Rattle.pb_message_excerpts.proofs.shown.put_below_shown.Given as goal

abbrev pub invariant-loop-at : goal.invariant-loop-at
invariant-loop-at l = l.out.items ++ below_bytes l.later (drop l.at l.bytes) ≡ l.fn.out.items ++ below_bytes 0 l.bytes
