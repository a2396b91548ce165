use Rattle.std.proofs.Common.{◌≡◌, ◌++◌, ◌∷◌, take}
use Rattle.std.specs.List.{join_with_byte}
use Rattle.pb_object.specs.Instructions.{pair_words}
use Rattle.pb_object.proofs.instr_writer.put_bundle.Given as goal

abbrev pub invariant-loop-i : goal.invariant-loop-i
invariant-loop-i l = l.out.items ≡ l.fn.out.items ++ join_with_byte 32 (l.keyword ∷ pair_words (take l.i l.bundle))
