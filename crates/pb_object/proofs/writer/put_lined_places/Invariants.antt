use Rattle.std.proofs.Common.{◌≡◌, ◌++◌, take, map}
use Rattle.std.specs.List.{flat_map}
use Rattle.pb_code.specs.declared.format.Format.TheVariants.{Two}
use Rattle.pb_object.specs.Instructions.{place_words}
use Rattle.pb_object.specs.Lines.{line_text}
use Rattle.pb_object.specs.Rows.{side_by_side}
use Rattle.pb_code.specs.View.{instr_view}
use Rattle.pb_object.proofs.writer.put_lined_places.Given as goal

abbrev pub invariant-loop-i : goal.invariant-loop-i
invariant-loop-i l =
    l.out.items ≡ l.fn.out.items
    ++ flat_map (λ p. line_text (place_words Two p)) (side_by_side (take l.i l.lines) (map (instr_view l.code.bundles.items) (take l.i l.code.instrs.items)))
