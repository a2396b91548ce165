use Rattle.pb_messages.proofs.SaidLemmas.{text_replayed}
use Rattle.pb_messages.proofs.message.replayed_message.Goals as goal

pub returns : goal.returns
returns c =
    text_replayed (λ told. told.items) c.args.lending c.line_of-before.result c.args.bytes.now _ _ c.picked_text_message.result c.two_parts.ensures
    c.line_of-before.ensures c.picked_text_message.ensures
