use Rattle.std.proofs.Common.{sym}
use Rattle.pb_messages.proofs.SaidLemmas.{lines_told}
use Rattle.pb_messages.proofs.picks.unread_message.Goals as goal

pub returns : goal.returns
returns c =
    lines_told (λ told. told.items) c.args.lending _ _ _ _ c.in-Some.cause c.in_ok-wording.wording c.worded.result c.requires.fault
    (sym c.in-Some.ensures) c.in_ok-wording.ensures c.worded.ensures.told c.worded.ensures.shows c.worded.ensures.whole
