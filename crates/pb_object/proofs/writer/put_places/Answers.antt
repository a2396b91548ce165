use Rattle.pb_object.specs.Instructions.{instr_words}
use Rattle.pb_object.specs.Lines.{line_text}
use Rattle.pb_code.specs.View.{instr_view}
use Rattle.pb_object.proofs.JoinedWords.{more_flat}
use Rattle.pb_object.proofs.writer.put_places.Goals as goal

pub loop-instr-preserved : goal.loop-instr-preserved
loop-instr-preserved c =
    let items = c.deref-instr-items.ensures.value in
    more_flat (λ i. line_text (instr_words i)) (instr_view c.args.code.now.bundles.items) c.args.out.now.items
    c.loop-instr.out.items _ c.args.code.now.instrs.items c.loop-instr.instr-index _ (rw items at c.loop-instr-test.true)
    c.loop-instr.invariant (rw (c.deref.ensures.value, items) at c.in_ok-put_place.ensures)
