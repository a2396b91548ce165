use Rattle.std.proofs.Common.{◌≡◌, ◌++◌, drop}
use Rattle.pb_message_excerpts.specs.Characters.{shown_bytes}
use Rattle.pb_message_excerpts.proofs.shown.put_shown.Given as goal

abbrev pub invariant-loop-at : goal.invariant-loop-at
invariant-loop-at l = l.out.items ++ shown_bytes l.later (drop l.at l.bytes) ≡ l.fn.out.items ++ shown_bytes 0 l.bytes
