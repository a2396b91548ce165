use Rattle.std.proofs.Common.{◌≡◌, ◌++◌, take, map}
use Rattle.std.specs.List.{flat_map}
use Rattle.pb_object.specs.Instructions.{instr_words}
use Rattle.pb_object.specs.Lines.{line_text}
use Rattle.pb_code.specs.View.{instr_view}
use Rattle.pb_object.proofs.writer.put_places.Given as goal

abbrev pub invariant-loop-instr : goal.invariant-loop-instr
invariant-loop-instr l =
    l.out.items ≡ l.fn.out.items ++ flat_map (λ i. line_text (instr_words i)) (map (instr_view l.code.bundles.items) (take l.instr-index l.code.instrs.items))
