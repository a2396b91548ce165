use Rattle.std.proofs.Common.{◌≡◌, ◌++◌, drop, map}
use Rattle.pb_bank.specs.Words.{shown_byte}
use Rattle.pb_bank.proofs.refusal.put_shown.Given as goal

abbrev pub invariant-loop-byte : goal.invariant-loop-byte
invariant-loop-byte l =
    (l.out.items ++ map shown_byte (drop l.byte-index l.word)) ≡ (l.initial.out.items ++ map shown_byte l.word)
