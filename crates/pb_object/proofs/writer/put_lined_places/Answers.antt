use Rattle.std.proofs.Common.{◌++◌, ◌∷◌, ◌∙◌, ap, List, None, get_or}
use Rattle.std.specs.Fmt.{decimal}
use Rattle.pb_base.specs.declared.pair.Pair.{Pair}
use Rattle.pb_code.specs.declared.instr.Instr.{Instr as Given}
use Rattle.pb_code.specs.declared.format.Format.TheVariants.{Two}
use Rattle.pb_object.specs.Instructions.{instr_words, line_number, place_words}
use Rattle.pb_object.specs.Lines.{line_text}
use Rattle.pb_code.specs.View.{instr_view}
use Rattle.pb_object.proofs.JoinedWords.{more_places}
use Rattle.pb_object.proofs.writer.put_lined_places.Goals as goal

pub loop-i-preserved : goal.loop-i-preserved
loop-i-preserved c =
    let number = decimal (line_number (get_or c.args.lines.now c.loop-i.i None)) in
    let bundles = c.args.code.now.bundles.items in
    let written =
    c.in_ok-put_lined_place.ensures
    ∙ ap (λ (b : List (List Pair)). c.loop-i.out.items ++ line_text (number ∷ instr_words (instr_view b c.index.result.now))) c.deref.ensures.value
    ∙ ap (λ (j : Given). c.loop-i.out.items ++ line_text (number ∷ instr_words (instr_view bundles j))) c.index.ensures in
    more_places (λ p. line_text (place_words Two p)) (instr_view bundles) c.args.out.now.items c.loop-i.out.items _
    c.args.lines.now c.args.code.now.instrs.items c.loop-i.i
    None c.index.result.now c.loop-i-test.true c.requires c.loop-i.invariant written
