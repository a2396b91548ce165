use Rattle.std.proofs.Common.{◌≡◌, ◌++◌, map, take}
use Rattle.pb_message_excerpts.specs.Characters.{below_byte}
use Rattle.pb_message_excerpts.proofs.shown.put_below.Given as goal

abbrev pub invariant-loop-byte : goal.invariant-loop-byte
invariant-loop-byte l = l.out.items ≡ l.fn.out.items ++ map below_byte (take l.byte-index l.bytes)
