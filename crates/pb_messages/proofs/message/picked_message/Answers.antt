use Rattle.std.proofs.Common.{refl}
use Rattle.pb_messages.proofs.SaidLemmas.{object_picked, text_picked}
use Rattle.pb_messages.proofs.message.picked_message.Goals as goal

pub returns-then-is_object : goal.returns-then-is_object
returns-then-is_object c =
    object_picked (λ told. told.items) c.args.lending c.args.lines.before c.args.source.now c.args.lines.text.now c.picked_object_message.result
    (c.if-is_object.ensures.0 refl) c.picked_object_message.ensures

pub returns-else-is_object : goal.returns-else-is_object
returns-else-is_object c =
    text_picked (λ told. told.items) c.args.lending c.args.lines.before c.args.source.now c.args.lines.text.now c.picked_text_message.result
    (λ object. let same = c.if-is_object.ensures.1 object in cc) c.picked_text_message.ensures
