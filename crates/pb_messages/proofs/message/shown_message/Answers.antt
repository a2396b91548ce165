use Rattle.pb_messages.proofs.SaidLemmas.{source_shown}
use Rattle.pb_messages.proofs.message.shown_message.Goals as goal

pub returns : goal.returns
returns c =
    source_shown (λ told. told.items) c.args.lending c.line_of-before.result c.args.bytes.now _ _ c.picked_message.result c.two_parts.ensures
    c.line_of-before.ensures c.picked_message.ensures
