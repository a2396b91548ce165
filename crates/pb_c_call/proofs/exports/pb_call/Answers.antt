use Rattle.std.proofs.Common.{List, map, ap, inl, subst}
use Rattle.std.specs.Borrow.{Bor}
use Rattle.clap.specs.Walk.{Text}
use Rattle.pb_c_call.specs.Replies.{KeptBytes, Replies}
use Rattle.pb_c_call.proofs.GivenReplies.{Writes, given, replied}
use Rattle.pb_c_call.proofs.exports.pb_call.Goals as goal

pub returns-clause-given : goal.returns-clause-given
returns-clause-given c =
    let writes = subst (λ (read : List (Bor Text)). Writes read c.new-source.result c.new-reply.result.bytes c.answer_alone-status.new.output.bytes
    c.answer_alone-status.result) c.as_slice.ensures.value c.answer_alone-status.ensures in
    inl (given (Replies (map (λ word. word.text.now) c.args.words.now) c.args.input.now) c.put_front.new.to c.args.output.now
    c.answer_alone-status.new.output.bytes c.as_slice-bytes.result.now c.answer_alone-status.result c.number_of.result
    (replied (map (λ word. word.text.now) c.args.words.now) c.args.input.now c.in-Ok.texts.items c.new-source.result c.new-reply.result.bytes
    c.answer_alone-status.new.output.bytes c.answer_alone-status.result c.in-Ok.ensures.read c.new-source.ensures
    (ap (λ (k : KeptBytes). k.bytes) c.new-reply.ensures) writes)
    c.number_of.ensures.number c.as_slice-bytes.ensures c.put_front.ensures.length c.put_front.ensures.front)
