use Rattle.std.proofs.Common.{refl}
use Rattle.pb_messages.proofs.LiveLemmas.{live_said, long_said}
use Rattle.pb_messages.proofs.live.live_message.Goals as goal

pub returns-then-has_long_part : goal.returns-then-has_long_part
returns-then-has_long_part c =
    long_said c.args.lending (λ told. told.items) c.args.bytes.now _ _ _ _ c.long_message.result c.two_parts.ensures c.two_parts-2.ensures
    (c.if-has_long_part.ensures.0 refl) c.long_message.ensures

pub returns : goal.returns
returns c =
    live_said c.args.lending (λ told. told.items) c.args.bytes.now _ _ _ _ c.debugged_message.result c.two_parts.ensures c.two_parts-2.ensures
    (λ long. let same = c.if-has_long_part.ensures.1 long in cc) c.debugged_message.ensures
