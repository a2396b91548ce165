use Rattle.pb_messages.proofs.SaidLemmas.{source_debugged}
use Rattle.pb_messages.proofs.message.debugged_message.Goals as goal

pub returns : goal.returns
returns c =
    source_debugged (λ told. told.items) c.args.lending c.line_of-before.result c.args.bytes.now _ _ _ _ c.picked_message.result c.two_parts.ensures
    c.two_parts-2.ensures c.line_of-before.ensures c.picked_message.ensures
